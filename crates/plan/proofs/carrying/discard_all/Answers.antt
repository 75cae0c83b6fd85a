use Rattle.std.proofs.Common.{◌∙◌, refl}
use Rattle.plan.proofs.Preparing.{next_changed, none_changed}
use Rattle.plan.proofs.carrying.discard_all.Goals as goal

pub loop-deed-init : goal.loop-deed-init
loop-deed-init g c = record { failed = refl; others = none_changed (g.S.FileSystem.files c.args.system.now).bytes }

pub loop-deed-preserved : goal.loop-deed-preserved
loop-deed-preserved g c = record {
  failed = c.discard_one.ensures.failed ∙ c.loop-deed.invariant.failed;
  others = next_changed c.args.deeds.now c.loop-deed.deed-index c.deed-item.result (g.S.FileSystem.files c.args.system.now).bytes (g.S.FileSystem.files c.loop-deed.system).bytes
      (g.S.FileSystem.files c.discard_one.new.system).bytes c.loop-deed-test.true c.deed-item.is c.loop-deed.invariant.others c.discard_one.ensures.others;
}
