use Rattle.std.proofs.Common.{Err, Ok, inr, refl}
use Rattle.std.proofs.lemmas.Result.{err_from_is_err_and}
use Rattle.cpmrun.proofs.Carrying.{carries_plan}
use Rattle.cpmrun.proofs.word_run.carry_out_plans.Goals as goal

pub returns-in_err-carry_out-clause-fault : goal.returns-in_err-carry_out-clause-fault
returns-in_err-carry_out-clause-fault g c =
    let carried = carries_plan (g.S.FileSystem.files c.args.system.now).bytes _ _ (Err c.in_err-carry_out.field-0.0) c.args.outside.deeds.items c.args.plan.deeds.items
    c.in_ok-carry_out_each.ensures.carried (rw c.sync_drives-out.ensures at c.in_err-carry_out.ensures.carried) in
    let left = err_from_is_err_and c.from_residual-in_err-carry_out.result c.from_residual-in_err-carry_out.ensures.1 in
    rw (left.1, left.2) (c.in_err-carry_out.field-0.0, refl, inr carried)

pub returns-clause-done : goal.returns-clause-done
returns-clause-done g c =
    rw c.sync_drives-disks.ensures (carries_plan (g.S.FileSystem.files c.args.system.now).bytes _ _ (Ok tt) c.args.outside.deeds.items c.args.plan.deeds.items
    c.in_ok-carry_out_each.ensures.carried (rw c.sync_drives-out.ensures at c.in_ok-carry_out.ensures.carried))
