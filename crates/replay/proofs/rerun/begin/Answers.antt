use Rattle.std.proofs.Common.{ap, sym, ◌∙◌, inr, arith, take, length, Some}
use Rattle.std.proofs.lemmas.List.{length-take-le}
use Rattle.machine.specs.StateView.{PartialState}
use Rattle.machine.specs.Machine.{session_answers}
use Rattle.machine.specs.SavedState.{state_with_text}
use Rattle.replay.specs.Ring.{IsValidFor}
use Rattle.machine.proofs.RunLemmas.{after_zero}
use Rattle.replay.proofs.StartLemmas.{has_valid, has_step}
use Rattle.replay.proofs.rerun.begin.Goals as goal

pub returns-in_default-clause-at : goal.returns-in_default-clause-at
returns-in_default-clause-at c = after_zero _ _ _ c.in_ok-state.ensures.state

pub text_prefix-requires : goal.text_prefix-requires
text_prefix-requires c =
    let stands = has_valid (IsValidFor (session_answers c.args.session.now) c.args.text.now.items) c.args.ring.now.items c.in-Some.checkpoint.now c.in-Some.ensures.some.1 c.requires.stands in
    let fits = stands.fits in
    omega (arith, fits, c.text_length.ensures, c.args.text.now.ok.0)

pub resume-requires-clause-text : goal.resume-requires-clause-text
resume-requires-clause-text c =
    let stands = has_valid (IsValidFor (session_answers c.args.session.now) c.args.text.now.items) c.args.ring.now.items c.in-Some.checkpoint.now c.in-Some.ensures.some.1 c.requires.stands in
    ap length c.in_ok-own.ensures.value ∙ ap (λ n. length (take n c.args.text.now.items)) c.text_length.ensures ∙ length-take-le _ c.args.text.now.items stands.fits

pub returns-clause-at : goal.returns-clause-at
returns-clause-at c =
    let stands = has_valid (IsValidFor (session_answers c.args.session.now) c.args.text.now.items) c.args.ring.now.items c.in-Some.checkpoint.now c.in-Some.ensures.some.1 c.requires.stands in
    let own = c.in_ok-own.ensures.value ∙ ap (λ n. take n c.args.text.now.items) c.text_length.ensures in
    stands.state ∙ ap (λ (s : PartialState). Some s) (sym (c.resume.ensures.state ∙ ap (state_with_text c.in-Some.checkpoint.now.state) own))

pub returns-clause-started : goal.returns-clause-started
returns-clause-started c = inr (has_step c.args.ring.now.items c.in-Some.checkpoint.now c.in-Some.ensures.some.1)
