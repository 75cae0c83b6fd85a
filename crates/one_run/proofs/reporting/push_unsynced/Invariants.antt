use Rattle.std.proofs.Common.{◌≡◌, take}
use Rattle.streams.specs.Pushing.{more}
use Rattle.one_run.specs.StopLines.{unsynced_lines}
use Rattle.one_run.proofs.reporting.push_unsynced.Given as goal

abbrev pub invariant-loop-folder : goal.invariant-loop-folder
invariant-loop-folder g l = g.X.Text.pushed l.text ≡ more (g.X.Text.pushed l.fn.text) (unsynced_lines (take l.folder-index l.unsynced))
