use Rattle.std.proofs.Common.{◌≡◌, Option}
use Rattle.folders.specs.FileSystem.{FileBytes}
use Rattle.plan.specs.Plans.{ArePrepared}
use Rattle.plan.proofs.Committing.{IsAt}
use Rattle.plan.proofs.carrying.commit.Given as goal

abbrev pub invariant-loop-at : goal.invariant-loop-at
invariant-loop-at g l = record {
  failed : (g.S.FileSystem.files l.system).failed ≡ (g.S.FileSystem.files l.fn.system).failed;
  first : (start : Option FileBytes) → ArePrepared g.C.Contents.bytes l.deeds start (g.S.FileSystem.files l.fn.system).bytes
      → IsAt g.C.Contents.bytes l.deeds l.at start (g.S.FileSystem.files l.system).bytes;
}
