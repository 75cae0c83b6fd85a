use Rattle.std.proofs.Common.{◌≡◌, ◌-◌, ◌<◌, ◌≤◌}
use Rattle.dependencies.specs.Rows.{before_rows, rows_from}
use Rattle.dependencies.proofs.rows.row_from.Given as goal

abbrev pub invariant-loop-row : goal.invariant-loop-row
invariant-loop-row g l = record {
  left : rows_from l.joining (g.T.StepTable.steps l.table) l.first ≡ before_rows l.joining l.row (rows_from l.joining (g.T.StepTable.steps l.table) l.row.end);
  begins : l.row.first ≡ l.first;
  low : l.first < l.row.end;
  within : l.row.end ≤ l.end;
}

abbrev pub decreases-loop-row : goal.decreases-loop-row
decreases-loop-row g l = l.end - l.row.end
