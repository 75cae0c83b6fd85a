use Rattle.std.proofs.Common.{◌∙◌}
use Rattle.plan.proofs.Preparing.{next_of, stopped_at}
use Rattle.plan.proofs.carrying.prepare.Goals as goal

pub returns-in-Err-clause-err : goal.returns-in-Err-clause-err
returns-in-Err-clause-err g c =
    stopped_at g.C.Contents.bytes c.args.deeds.now c.loop-at.at c.index-deeds-at.result (g.S.FileSystem.files c.args.system.now).bytes
    (g.S.FileSystem.files c.loop-at.system).bytes (g.S.FileSystem.files c.prepare_one.new.system).bytes (g.S.FileSystem.files c.discard_all.new.system).bytes
    c.loop-at-test.true c.index-deeds-at.is c.loop-at.invariant.first c.in-Err.ensures.err c.discard_all.ensures.others

pub loop-at-preserved : goal.loop-at-preserved
loop-at-preserved g c =
    record {
      failed = c.in_default.ensures.failed ∙ c.loop-at.invariant.failed;
      first = next_of g.C.Contents.bytes c.args.deeds.now c.loop-at.at c.index-deeds-at.result (g.S.FileSystem.files c.args.system.now).bytes
          (g.S.FileSystem.files c.loop-at.system).bytes (g.S.FileSystem.files c.prepare_one.new.system).bytes
          c.loop-at-test.true c.index-deeds-at.is c.loop-at.invariant.first c.in_default.ensures.prepared c.in_default.ensures.free;
    }
