use Rattle.std.proofs.Common.{◌≡◌}
use Rattle.plan.proofs.making.temporary_for.Given as goal

abbrev pub invariant-loop-number : goal.invariant-loop-number
invariant-loop-number g l = g.S.FileSystem.files l.system ≡ g.S.FileSystem.files l.fn.system
