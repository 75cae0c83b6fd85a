use Rattle.std.proofs.Common.{◌∙◌, ◌∷◌, [], refl, sym}
use Rattle.plan.specs.Plans.{path_of}
use Rattle.plan.proofs.Committing.{first, next}
use Rattle.plan.proofs.Failures.{none_failed, on_ok}
use Rattle.plan.proofs.carrying.commit.Goals as goal

pub loop-at-init : goal.loop-at-init
loop-at-init g c = record {
  failed = refl;
  first = λ start p. first g.C.Contents.bytes c.args.deeds.now start (g.S.FileSystem.files c.args.system.now).bytes p.0 p.1;
}

pub loop-at-preserved : goal.loop-at-preserved
loop-at-preserved g c = record {
  failed = none_failed (path_of c.index-deeds-at.result ∷ []) c.commit_one.result _ _ (sym c.is_err.ensures.value ∙ c.if-is_err.false) c.commit_one.ensures.failed ∙ c.loop-at.invariant.failed;
  first = λ start p. next g.C.Contents.bytes c.args.deeds.now c.loop-at.at c.index-deeds-at.result start
      (g.S.FileSystem.files c.loop-at.system).bytes (g.S.FileSystem.files c.commit_one.new.system).bytes
      c.requires c.loop-at-test.true c.index-deeds-at.is (c.loop-at.invariant.first start p)
      (on_ok c.commit_one.result (sym c.is_err.ensures.value ∙ c.if-is_err.false) c.commit_one.ensures.moved);
}
