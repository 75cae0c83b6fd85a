use Rattle.std.proofs.Common.{◌≡◌}
use Rattle.cpmrun.proofs.reports.is_changed.Given as goal

abbrev pub invariant-loop-deed : goal.invariant-loop-deed
invariant-loop-deed g l = g.S.FileSystem.files l.system ≡ g.S.FileSystem.files l.fn.system
