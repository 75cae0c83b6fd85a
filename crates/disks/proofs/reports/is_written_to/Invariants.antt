use Rattle.std.proofs.Common.{◌≡◌}
use Rattle.disks.proofs.reports.is_written_to.Given as goal

abbrev pub invariant-loop-at : goal.invariant-loop-at
invariant-loop-at g l = g.S.FileSystem.files l.system ≡ g.S.FileSystem.files l.fn.system
