use Rattle.std.proofs.Common.{◌≡◌, ◌-◌, ◌≤◌}
use Rattle.dependencies.specs.Rows.{rows_from}
use Rattle.dependencies.proofs.rows.next_row.Given as goal

abbrev pub invariant-loop-first : goal.invariant-loop-first
invariant-loop-first g l = record {
  low : l.from ≤ l.first;
  same : rows_from l.joining (g.T.StepTable.steps l.table) l.from ≡ rows_from l.joining (g.T.StepTable.steps l.table) l.first;
}

abbrev pub decreases-loop-first : goal.decreases-loop-first
decreases-loop-first g l = l.end - l.first
