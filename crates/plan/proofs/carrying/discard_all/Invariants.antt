use Rattle.std.proofs.Common.{◌≡◌, take}
use Rattle.folders.specs.FileSystem.{ChangesOnly}
use Rattle.plan.specs.Plans.{temporaries}
use Rattle.plan.proofs.carrying.discard_all.Given as goal

abbrev pub invariant-loop-deed : goal.invariant-loop-deed
invariant-loop-deed g l = record {
  failed : (g.S.FileSystem.files l.system).failed ≡ (g.S.FileSystem.files l.fn.system).failed;
  others : ChangesOnly (temporaries (take l.deed-index l.deeds)) (g.S.FileSystem.files l.fn.system).bytes (g.S.FileSystem.files l.system).bytes;
}
