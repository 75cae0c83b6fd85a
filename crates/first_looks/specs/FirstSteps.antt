-- The first steps that looked at the indexes of one kind. (This project's own.)
use Rattle.std.specs.Prelude.{◌≡◌, ℕ, ◌≤◌, ◌⊎◌, ◌==◌, max, List, [], ◌∷◌, Option, Some, None, if◌then◌else◌, slice_index_or}
use Rattle.first_looks.specs.declared.first_steps.Look.{Look}

-- For each index its step, if it has one; and an upper bound of these steps.
pub record Steps : Type 0 where
  pub entries : List (Option ℕ)
  pub latest : ℕ

-- A step in 32 bits; the greatest number means "no step".
abbrev pub step_or_none : ℕ → Option ℕ
step_or_none n = if n == 4294967295 then None else Some n

abbrev pub step_at : List ℕ → ℕ → Option ℕ
step_at steps index = step_or_none (slice_index_or steps index 4294967295)

-- The step of an index; none past the last index.
abbrev pub step_in : List (Option ℕ) → ℕ → Option ℕ
step_in entries index = slice_index_or entries index None

-- The latest step, or 0.
abbrev pub latest_of : List Look → ℕ
latest_of [] = 0
latest_of (x ∷ xs) = max x.step (latest_of xs)

-- There is a look at this index by this step.
abbrev pub HasLook : List Look → ℕ → ℕ → Type 0
HasLook [] index step = ⊥
HasLook (x ∷ xs) index step = ((x.index ≡ index) × (x.step ≡ step)) ⊎ HasLook xs index step

-- The steps never decrease.
abbrev pub Rise : List Look → Type 0
Rise [] = Unit {0}
Rise (x ∷ []) = Unit {0}
Rise (x ∷ y ∷ ys) = (x.step ≤ y.step) × Rise (y ∷ ys)

-- For each index with a step there is a look by this step, and the looks are in the order of their steps.
pub record IsInOrder (steps : List ℕ) (looks : List Look) : Type 0 where
  pub noted : (index step : ℕ) → step_at steps index ≡ Some step → HasLook looks index step
  pub rise : Rise looks
