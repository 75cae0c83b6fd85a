use Rattle.std.proofs.Common.{◌≡◌, map, take}
use Rattle.std.specs.List.{flat_map}
use Rattle.streams.specs.Pushing.{more}
use Rattle.one_run.specs.ChangedList.{unplaced_line, changed_by}
use Rattle.one_run.proofs.reporting.push_unplaced.Given as goal

abbrev pub invariant-loop-entry : goal.invariant-loop-entry
invariant-loop-entry g l = g.X.Text.pushed l.text ≡ more (g.X.Text.pushed l.fn.text) (flat_map unplaced_line (map changed_by (take l.entry-index l.entries)))
