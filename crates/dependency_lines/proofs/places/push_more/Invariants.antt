use Rattle.std.proofs.Common.{◌≡◌, ◌-◌, length, map}
use Rattle.std.specs.List.{concat}
use Rattle.streams.specs.Pushing.{more}
use Rattle.dependencies.specs.Rows.{rows_from}
use Rattle.dependencies.specs.declared.rows.Joining.TheVariants.{Joined}
use Rattle.dependency_lines.specs.Places.{earliest}
use Rattle.dependency_lines.specs.Words.{row_text}
use Rattle.dependency_lines.proofs.places.push_more.Given as goal

-- The other rows are left, and this is the least step of those before.
abbrev pub invariant-loop-row : goal.invariant-loop-row
invariant-loop-row g l = record {
  left : more (g.X.Text.pushed l.text) (concat (map (row_text l.format) (rows_from Joined (g.T.StepTable.steps l.table) l.from)))
      ≡ more (g.X.Text.pushed l.initial.text) (concat (map (row_text l.format) (rows_from Joined (g.T.StepTable.steps l.table) l.fn.first.end)));
  least : earliest l.step (rows_from Joined (g.T.StepTable.steps l.table) l.from)
      ≡ earliest l.fn.first.step (rows_from Joined (g.T.StepTable.steps l.table) l.fn.first.end);
}

abbrev pub decreases-loop-row : goal.decreases-loop-row
decreases-loop-row g l = length (g.T.StepTable.steps l.table) - l.from
