use Rattle.std.proofs.Common.{◌∙◌, subst}
use Rattle.std.proofs.lemmas.List.{take_all}
use Rattle.plan.specs.Plans.{AreAsExpected}
use Rattle.folders.proofs.FilesLemmas.{same_files}
use Rattle.plan.proofs.Additions.{one_expected}
use Rattle.plan.proofs.looking.look.Goals as goal

pub loop-at-preserved : goal.loop-at-preserved
loop-at-preserved g c = (
  same_files c.in_default.ensures.unchanged ∙ c.loop-at.invariant.0,
  one_expected (g.S.FileSystem.files c.args.system.now).bytes c.args.deeds.now c.loop-at.at c.index-deeds-at.result c.loop-at-test.true c.index-deeds-at.is c.loop-at.invariant.1
      (rw c.loop-at.invariant.0 at c.in_default.ensures.as_expected),
)

pub returns-clause-as_expected : goal.returns-clause-as_expected
returns-clause-as_expected g c =
    subst (AreAsExpected (g.S.FileSystem.files c.args.system.now).bytes) (take_all c.loop-at.at c.args.deeds.now c.loop-at-test.false) c.loop-at.invariant.1
