use Rattle.std.proofs.Common.{◌≡◌}
use Rattle.disks.proofs.reports.leads_to_written.Given as goal

abbrev pub invariant-loop-folder : goal.invariant-loop-folder
invariant-loop-folder g l = g.S.FileSystem.files l.system ≡ g.S.FileSystem.files l.fn.system
