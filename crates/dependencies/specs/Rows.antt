-- Rows of indexes that have first steps. (This project's own.)
use Rattle.std.specs.Prelude.{◌≡◌, ℕ, ◌+◌, ◌≤◌, ◌<◌, ◌==◌, ◌&&◌, Bool, true, nat_lt, if◌then◌else◌, List, [], ◌∷◌, drop, length, Option, Some, None}
use Rattle.dependencies.specs.declared.rows.Row.{Row}
use Rattle.dependencies.specs.declared.rows.Joining.{Joining}
use Rattle.dependencies.specs.declared.rows.Joining.TheVariants.{Joined, ByStep}

-- The lesser of two steps.
abbrev pub earlier : ℕ → ℕ → ℕ
earlier m n = if nat_lt m n then m else n

-- Whether neighbours with these steps belong to one row.
abbrev pub joins : Joining → ℕ → ℕ → Bool
joins Joined m n = true
joins ByStep m n = m == n

-- The indexes from `first` on and below `end`, with a step.
abbrev pub row : ℕ → ℕ → ℕ → Row
row first end step = record { first = first; end = end; step = step }

-- A row before other rows: it is one with the first of them if the two are neighbours whose steps join.
abbrev pub before_rows : Joining → Row → List Row → List Row
before_rows joining r [] = r ∷ []
before_rows joining r (q ∷ qs) =
    if q.first == r.end && joins joining r.step q.step then row r.first q.end (earlier r.step q.step) ∷ qs else r ∷ q ∷ qs

-- The rows of the indexes from k on, which have these steps.
abbrev pub rows_of : Joining → ℕ → List (Option ℕ) → List Row
rows_of joining k [] = []
rows_of joining k (None ∷ steps) = rows_of joining (k + 1) steps
rows_of joining k (Some n ∷ steps) = before_rows joining (row k (k + 1) n) (rows_of joining (k + 1) steps)

-- The rows of all entries from index k on.
abbrev pub rows_from : Joining → List (Option ℕ) → ℕ → List Row
rows_from joining entries k = rows_of joining k (drop k entries)

-- A row is the first one of the indexes from k on, and the others begin behind it.
pub record IsFirstRow (joining : Joining) (entries : List (Option ℕ)) (k : ℕ) (r : Row) : Type 0 where
  pub first : rows_from joining entries k ≡ r ∷ rows_from joining entries r.end
  pub from_on : k < r.end
  pub within : r.end ≤ length entries
