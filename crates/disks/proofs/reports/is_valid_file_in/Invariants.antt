use Rattle.std.proofs.Common.{◌≡◌}
use Rattle.disks.proofs.reports.is_valid_file_in.Given as goal

abbrev pub invariant-loop-name : goal.invariant-loop-name
invariant-loop-name g l = g.S.FileSystem.files l.system ≡ g.S.FileSystem.files l.fn.system
