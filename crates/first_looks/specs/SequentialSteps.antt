-- The first steps that looked at indexes which are mostly looked at in ascending order. (This project's own.)
use Rattle.std.specs.Prelude.{◌≡◌, ℕ, ◌-◌, ◌<◌, ◌≤◌, List, ◌++◌, Option, Some, None, drop, length, map, slice_index}
use Rattle.std.specs.List.Sorted.{IsNonDecreasing}
use Rattle.first_looks.specs.FirstSteps.{step_in}

-- The steps of the indexes in ascending order, and then of the others.
abbrev pub all_steps : List ℕ → List (Option ℕ) → List (Option ℕ)
all_steps in_turn others = map (λ n. Some n) in_turn ++ drop (length in_turn) others

-- The last step, or 0.
abbrev pub last_step : List ℕ → ℕ
last_step steps = slice_index steps (length steps - 1)

-- The steps of the indexes in ascending order never decrease, and none of these indexes has another step.
pub record AreSequential (in_turn : List ℕ) (others : List (Option ℕ)) : Type 0 where
  pub rise : IsNonDecreasing in_turn
  pub apart : (k : ℕ) → k < length in_turn → step_in others k ≡ None

-- This index has a step, and no later index has an earlier one.
abbrev pub IsEarliestFrom : List (Option ℕ) → ℕ → Type 0
IsEarliestFrom entries index = (m : ℕ) × (step_in entries index ≡ Some m) × ((k n : ℕ) → index ≤ k → step_in entries k ≡ Some n → m ≤ n)
