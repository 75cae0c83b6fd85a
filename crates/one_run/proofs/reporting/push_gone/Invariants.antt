use Rattle.std.proofs.Common.{◌≡◌, map, take}
use Rattle.std.specs.List.{flat_map}
use Rattle.streams.specs.Pushing.{more}
use Rattle.one_run.specs.ChangedList.{gone_line, changed_by}
use Rattle.one_run.proofs.reporting.push_gone.Given as goal

abbrev pub invariant-loop-entry : goal.invariant-loop-entry
invariant-loop-entry g l = g.X.Text.pushed l.text ≡ more (g.X.Text.pushed l.fn.text) (flat_map (gone_line l.disks) (map changed_by (take l.entry-index l.entries)))
