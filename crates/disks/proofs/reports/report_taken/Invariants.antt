use Rattle.std.proofs.Common.{◌≡◌}
use Rattle.disks.proofs.reports.report_taken.Given as goal

abbrev pub invariant-loop-input : goal.invariant-loop-input
invariant-loop-input g l = g.S.FileSystem.files l.system ≡ g.S.FileSystem.files l.fn.system
