use Rattle.std.proofs.Common.{◌≡◌, ◌<◌, ◌||◌, ◌∙◌, None, false, rules, sym, true}
use Rattle.streams.proofs.Pushes.{unless_failed, whole_part}
use Rattle.tracing.specs.Trace.{console_text}
use Rattle.tracing.proofs.TextPieces.{all_pushed, itself, more_pushed, rest_left}
use Rattle.tracing.proofs.Walking.{at_end}
use Rattle.tracing.proofs.walk.walk.Goals as goal

pub returns-in_err-stop-clause-console : goal.returns-in_err-stop-clause-console
returns-in_err-stop-clause-console g c =
    unless_failed c.from_residual.result c.from_residual.ensures.0 (rest_left _ _ (console_text c.args.run.now.session) c.send_if_due-sent.result.bytes
    ((rw c.loop-run.invariant.session at c.send_if_due-sent.ensures.console) _ c.loop-run.invariant.console))

pub returns-then-has_either_failed-clause-console : goal.returns-then-has_either_failed-clause-console
returns-then-has_either_failed-clause-console g c = record {
  part = rest_left _ _ (console_text c.args.run.now.session) c.loop-run.sent.bytes c.loop-run.invariant.console;
  whole = λ sound. let no : true ≡ false = sym (sym c.has_either_failed-2.ensures ∙ c.if-has_either_failed.true) ∙ sound in absurd (cc);
}

pub returns-clause-ends : goal.returns-clause-ends
returns-clause-ends g c =
    let over : c.loop-run.stop ≡ None → c.loop-run.run.step < c.loop-run.run.session.limit → ⊥ = search rules in
    λ x y. at_end c.loop-run.run c.loop-run.stop c.step-2.ensures.session c.step-2.ensures.at c.loop-run.invariant.within over

pub returns-clause-console : goal.returns-clause-console
returns-clause-console g c =
    let over : c.loop-run.stop ≡ None → c.loop-run.run.step < c.loop-run.run.session.limit → ⊥ = search rules in
    let end = at_end c.loop-run.run c.loop-run.stop c.step-2.ensures.session c.step-2.ensures.at c.loop-run.invariant.within over in
    let whole = console_text c.args.run.now.session in
    let all = rw c.loop-run.invariant.session at (c.text.ensures.whole c.loop-run.stop end.by) in
    let pushed = all_pushed _ _ whole c.text.result.now c.loop-run.sent.bytes c.push_more.result all c.push_more.ensures.count
    (more_pushed whole c.text.result.now c.loop-run.sent.bytes (itself whole c.text.result.now all) _ _ _ c.push_more.result c.push_more.ensures.count
    c.loop-run.invariant.console c.push_more.ensures.console) in
    record { part = whole_part pushed; whole = λ sound. pushed }
