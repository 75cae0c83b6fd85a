use Rattle.std.proofs.Common.{◌≡◌}
use Rattle.disks.proofs.reports.is_host_file.Given as goal

abbrev pub invariant-loop-drive : goal.invariant-loop-drive
invariant-loop-drive g l = g.S.FileSystem.files l.system ≡ g.S.FileSystem.files l.fn.system
