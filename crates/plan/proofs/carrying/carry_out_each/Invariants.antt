use Rattle.std.proofs.Common.{◌≡◌, take}
use Rattle.folders.specs.FileSystem.{Becomes}
use Rattle.plan.specs.Plans.{all_done}
use Rattle.plan.proofs.carrying.carry_out_each.Given as goal

-- The first deeds are done.
abbrev pub invariant-loop-at : goal.invariant-loop-at
invariant-loop-at g l = record {
  same : l.deeds ≡ l.fn.plan.deeds;
  failed : (g.S.FileSystem.files l.system).failed ≡ (g.S.FileSystem.files l.fn.system).failed;
  done : Becomes (g.S.FileSystem.files l.fn.system).bytes (g.S.FileSystem.files l.system).bytes (all_done g.C.Contents.bytes (take l.at l.fn.plan.deeds.items));
}
