-- The lines of the places of one kind that were asked for. (This project's profile.)
use Rattle.std.specs.Prelude.{ℕ, List, [], ◌∷◌, ◌++◌, map}
use Rattle.std.specs.List.{concat}
use Rattle.dependencies.specs.Rows.{earlier}
use Rattle.dependencies.specs.declared.rows.Row.{Row}
use Rattle.dependencies.specs.declared.rows.Joining.{Joining}
use Rattle.dependencies.specs.declared.rows.Joining.TheVariants.{Joined, ByStep}
use Rattle.dependency_lines.specs.Words.{row_text, step_end}
use Rattle.dependency_lines.specs.declared.words.IndexFormat.{IndexFormat}

-- The least of a step and the steps of rows.
abbrev pub earliest : ℕ → List Row → ℕ
earliest step [] = step
earliest step (r ∷ rs) = earliest (earlier step r.step) rs

-- One line for all rows, with the least of their steps.
abbrev pub joined_line : IndexFormat → List ℕ → List Row → List ℕ
joined_line format head [] = []
joined_line format head (r ∷ rs) = head ++ row_text format r ++ concat (map (row_text format) rs) ++ step_end (earliest r.step rs)

-- A line for one row.
abbrev pub row_line : IndexFormat → List ℕ → Row → List ℕ
row_line format head r = head ++ row_text format r ++ step_end r.step

-- The lines of rows, which begin with `head`.
abbrev pub rows_text : Joining → IndexFormat → List ℕ → List Row → List ℕ
rows_text Joined format head rs = joined_line format head rs
rows_text ByStep format head rs = concat (map (row_line format head) rs)
