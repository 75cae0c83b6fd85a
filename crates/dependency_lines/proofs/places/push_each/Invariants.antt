use Rattle.std.proofs.Common.{◌≡◌, ◌-◌, ℕ, length, map}
use Rattle.std.specs.List.{concat}
use Rattle.streams.specs.Pushing.{more}
use Rattle.dependencies.specs.Rows.{rows_from}
use Rattle.dependencies.specs.declared.rows.Joining.TheVariants.{ByStep}
use Rattle.dependency_lines.specs.Heads.{head_text}
use Rattle.dependency_lines.specs.Places.{row_line}
use Rattle.dependency_lines.proofs.places.push_each.Given as goal

-- The lines of the other rows are left.
abbrev pub invariant-loop-row : goal.invariant-loop-row
invariant-loop-row g l =
    let lines = λ (from : ℕ). concat (map (row_line l.head.format (head_text l.head)) (rows_from ByStep (g.T.StepTable.steps l.table) from)) in
    more (g.X.Text.pushed l.text) (lines l.from) ≡ more (g.X.Text.pushed l.initial.text) (lines l.initial.from)

abbrev pub decreases-loop-row : goal.decreases-loop-row
decreases-loop-row g l = length (g.T.StepTable.steps l.table) - l.from
