-- A step that is noted, and a step that is erased. (This project's own.)
use Rattle.std.specs.Prelude.{ℕ, Bool, true, false, Option, Some, None, nat_lt, if◌then◌else◌}

-- The first step if there is one, else the second.
abbrev pub or_else : Option ℕ → Option ℕ → Option ℕ
or_else None b = b
or_else (Some a) b = Some a

-- A step, if a test passes.
abbrev pub step_if : Bool → ℕ → Option ℕ
step_if true n = Some n
step_if false n = None

-- What is left of a step after the steps from t on are erased.
abbrev pub step_below : ℕ → Option ℕ → Option ℕ
step_below t None = None
step_below t (Some m) = if nat_lt m t then Some m else None
