use Rattle.std.proofs.Common.{subst, sym, refl}
use Rattle.std.specs.declared.result.Result.{Result}
use Rattle.std.proofs.lemmas.Result.{err_from_is_err_and}
use Rattle.replay.specs.declared.edit.EditError.{EditError}
use Rattle.replay.specs.Edits.{edited}
use Rattle.replay.specs.EditAnswers.{AnswersEdit, Refuses}
use Rattle.replay.specs.Change.{session_after_change}
use Rattle.replay.specs.RunnerView.{RunnerView}
use Rattle.replay.proofs.RunnerLemmas.{sound_edit, keeps_edit, all_stand}
use Rattle.replay.proofs.runner.Runner.edit.Goals as goal

pub invariant_of-self-2 : goal.invariant_of-self-2
invariant_of-self-2 c =
    sound_edit c.self.inside.last_run.session c.apply.new.session c.self.inside.last_run.text.items c.touch_of-touch.result c.self.inside.checkpoints _
    c.self.invariant (rw (← c.in_ok-apply.ensures.ok) at c.touch_of-touch.ensures) c.drop_past.ensures.parts c.erase_from.ensures.steps c.erase_from.ensures.seen refl

pub returns-in_err-change-clause-answer : goal.returns-in_err-change-clause-answer
returns-in_err-change-clause-answer c =
    let e = err_from_is_err_and c.from_residual.result c.from_residual.ensures.1 in
    let old = c.self.inside.last_run.session in
    subst (λ (v : RunnerView). AnswersEdit (edited v.session c.args.edit) c.from_residual.result v.session) c.self.view_is
    (subst (λ (r : Result (Unit {0}) EditError). AnswersEdit (edited old c.args.edit) r old) (sym e.1) (subst (Refuses (edited old c.args.edit)) (sym e.2) c.in_err-change.ensures.refused))

pub returns-in_err-change-clause-stand : goal.returns-in_err-change-clause-stand
returns-in_err-change-clause-stand c = rw (← c.self.view_is) (all_stand _ _ _ c.self.invariant.valid)

pub returns-in_err-apply-clause-answer : goal.returns-in_err-apply-clause-answer
returns-in_err-apply-clause-answer c =
    let e = err_from_is_err_and c.from_residual-in_err-apply.result c.from_residual-in_err-apply.ensures.1 in
    let old = c.self.inside.last_run.session in
    subst (λ (v : RunnerView). AnswersEdit (edited v.session c.args.edit) c.from_residual-in_err-apply.result c.apply.new.session) c.self.view_is
    (subst (λ (r : Result (Unit {0}) EditError). AnswersEdit (edited old c.args.edit) r c.apply.new.session) (sym e.1)
    (subst (Refuses (edited old c.args.edit)) (sym e.2) (session_after_change old c.in_ok-change.change, c.in_ok-change.ensures.makes)))

pub returns-in_err-apply-clause-stand : goal.returns-in_err-apply-clause-stand
returns-in_err-apply-clause-stand c = rw (c.in_err-apply.ensures.err) (all_stand _ _ _ c.self.invariant.valid)

pub returns-clause-kept : goal.returns-clause-kept
returns-clause-kept c =
    rw (← c.self.view_is) (keeps_edit c.self.inside.last_run.session c.apply.new.session c.self.inside.last_run.text.items c.touch_of-touch.result c.self.inside.checkpoints c.drop_past.new.ring
    c.self.invariant (rw (← c.in_ok-apply.ensures.ok) at c.touch_of-touch.ensures) c.drop_past.ensures.parts)

pub returns-clause-stand : goal.returns-clause-stand
returns-clause-stand c =
    let sound = sound_edit c.self.inside.last_run.session c.apply.new.session c.self.inside.last_run.text.items c.touch_of-touch.result c.self.inside.checkpoints (record { spacing = c.self.inside.checkpoints.spacing; ring = c.drop_past.new.ring; notes = record { looks = c.erase_from.new.self; noting = c.self.inside.checkpoints.notes.noting }; left_out = c.self.inside.checkpoints.left_out })
    c.self.invariant (rw (← c.in_ok-apply.ensures.ok) at c.touch_of-touch.ensures) c.drop_past.ensures.parts c.erase_from.ensures.steps c.erase_from.ensures.seen refl in
    all_stand _ _ _ sound.valid
