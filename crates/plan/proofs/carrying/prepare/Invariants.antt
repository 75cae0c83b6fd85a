use Rattle.std.proofs.Common.{◌≡◌, take}
use Rattle.plan.specs.Plans.{ArePrepared}
use Rattle.plan.proofs.carrying.prepare.Given as goal

abbrev pub invariant-loop-at : goal.invariant-loop-at
invariant-loop-at g l = record {
  failed : (g.S.FileSystem.files l.system).failed ≡ (g.S.FileSystem.files l.fn.system).failed;
  first : ArePrepared g.C.Contents.bytes (take l.at l.deeds) (g.S.FileSystem.files l.fn.system).bytes (g.S.FileSystem.files l.system).bytes;
}
