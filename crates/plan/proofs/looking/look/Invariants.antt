use Rattle.std.proofs.Common.{◌≡◌, take}
use Rattle.plan.specs.Plans.{AreAsExpected}
use Rattle.plan.proofs.looking.look.Given as goal

-- What is at the paths of the first deeds is as expected.
abbrev pub invariant-loop-at : goal.invariant-loop-at
invariant-loop-at g l =
    (g.S.FileSystem.files l.system ≡ g.S.FileSystem.files l.fn.system) × AreAsExpected (g.S.FileSystem.files l.fn.system).bytes (take l.at l.deeds)
