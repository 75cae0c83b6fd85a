-- The entries of first steps, and the numbers that hold them.
use Rattle.std.proofs.Common.{◌≡◌, ◌≤◌, ℕ, List, None, length, map, ap}
use Rattle.std.proofs.Math.ListN.{get_or-map}
use Rattle.std.proofs.lemmas.List.{get_or_past}
use Rattle.std.specs.Prelude.{slice_index_or}
use Rattle.first_looks.specs.FirstSteps.{step_or_none, step_at}

pub entry_at : (steps : List ℕ) (k : ℕ) → slice_index_or (map step_or_none steps) k None ≡ step_at steps k
entry_at steps k = get_or-map step_or_none steps k 4294967295

-- An index past the end has no step.
pub none_past : (steps : List ℕ) (k : ℕ) → length steps ≤ k → step_at steps k ≡ None
none_past steps k past = ap step_or_none (get_or_past steps k 4294967295 past)
