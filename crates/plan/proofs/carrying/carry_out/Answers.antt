use Rattle.std.proofs.Common.{inl, ℕ, refl, slice_get}
use Rattle.std.proofs.lemmas.Result.{err_from_is_err_and}
use Rattle.plan.specs.Faults.{IsUnprepared}
use Rattle.plan.specs.Plans.{temporaries}
use Rattle.plan.proofs.Failures.{adds_nothing, fails_weaker}
use Rattle.plan.proofs.carrying.carry_out.Goals as goal

pub returns-in_err-left-clause-carried : goal.returns-in_err-left-clause-carried
returns-in_err-left-clause-carried g c =
    let left = err_from_is_err_and c.from_residual.result c.from_residual.ensures.1 in
    let files = (g.S.FileSystem.files c.args.system.now).bytes in
    rw (left.1, left.2) (inl (adds_nothing (temporaries c.args.plan.deeds.items) files files refl, tt))

pub returns-in-Err-clause-carried : goal.returns-in-Err-clause-carried
returns-in-Err-clause-carried g c =
    let deeds = c.args.plan.deeds.items in
    inl (
      rw c.as_slice.ensures.value at c.in-Err.ensures.err,
      fails_weaker (IsUnprepared (slice_get deeds c.in-Err.stop.at)) (λ fault. (n : ℕ) × IsUnprepared (slice_get deeds n) fault) (λ fault h. (c.in-Err.stop.at, h))
          c.unprepared.result c.unprepared.ensures.fault,
    )
