use Rattle.std.proofs.lemmas.Result.{err_from_is_err_and}
use Rattle.plan.specs.Plans.{temporaries}
use Rattle.plan.proofs.Failures.{adds_nothing}
use Rattle.plan.proofs.Preparing.{discarded}
use Rattle.plan.proofs.carrying.make_ready.Goals as goal

pub returns-in_err-look-clause-err : goal.returns-in_err-look-clause-err
returns-in_err-look-clause-err g c =
    let left = err_from_is_err_and c.from_residual.result c.from_residual.ensures.1 in
    rw left.1 (adds_nothing (temporaries c.args.deeds.now) _ _ c.look.ensures.unchanged.bytes)

pub returns-in-Err-clause-err : goal.returns-in-Err-clause-err
returns-in-Err-clause-err g c =
    let files = g.S.FileSystem.files in
    discarded g.C.Contents.bytes c.args.deeds.now (files c.args.system.now).bytes (files c.prepare.new.system).bytes (files c.discard_all.new.system).bytes
    (rw c.look.ensures.unchanged.bytes at c.in_ok-prepare.ensures.prepared, rw c.look.ensures.unchanged.bytes at c.in_ok-prepare.ensures.free)
    (rw c.look-2.ensures.unchanged.bytes at c.discard_all.ensures.others)
