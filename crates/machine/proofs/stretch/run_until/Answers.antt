use Rattle.std.proofs.Common.{inl, inr, arith, ap, sym, ◌∙◌}
use Rattle.machine.specs.StateView.{PartialState, StateView}
use Rattle.machine.specs.Step.{is_call}
use Rattle.machine.proofs.RunSteps.{calls_known, calls_upto, ends_here, keeps_on, known_keeps, known_on, one_more}
use Rattle.machine.proofs.stretch.run_until.Goals.{then-step-end-via-then-step-end, then-step-end-via-else-step-end+then-ends_before}
use Rattle.machine.proofs.stretch.run_until.Goals as goal

pub returns-then-step-end-clause-run : goal.returns-then-step-end-clause-run
returns-then-step-end-clause-run c =
    let i = c.loop-step.invariant in
    let e = c.pass_to.ensures in
    known_on _ _ _ _ _ i.run _ _ (omega (arith, c.run_quietly.ensures.within, i.within, c.requires.order)) c.run_quietly.ensures.runs e.passed e.other e.noting

pub returns-then-step-end-clause-runs : goal.returns-then-step-end-clause-runs
returns-then-step-end-clause-runs c =
    let i = c.loop-step.invariant in
    let e = c.pass_to.ensures in
    let here = known_on _ _ _ _ _ i.run _ _ (omega (arith, c.run_quietly.ensures.within, i.within, c.requires.order)) c.run_quietly.ensures.runs e.passed e.other e.noting in
    record {
      within = (omega (arith, i.within), omega (arith, c.run_quietly.ensures.within, i.within));
      at = here.at;
      ended = ends_here _ _ _ _ (elim c.then-step-end.branch [
        | then-step-end-via-then-step-end w ↦ inl w.if-step-end.true
        | then-step-end-via-else-step-end+then-ends_before w ↦
            let there = w.ends_before.ensures.here w.if-ends_before.true in
            inr (there.0, sym (ap (λ (v : StateView). is_call v.state.core) c.state.view_is) ∙ there.1)
      ]);
      stopped = tt;
      failed = λ _. tt;
      calls = λ call. calls_known _ _ _ _ _ _ _ i.run c.run_quietly.ensures.runs (i.calls call);
      apart = λ _. tt;
    }

pub slow_step-requires-clause-run : goal.slow_step-requires-clause-run
slow_step-requires-clause-run c =
    let i = c.loop-step.invariant in
    let e = c.pass_to.ensures in
    known_on _ _ _ _ _ i.run _ _ (omega (arith, c.run_quietly.ensures.within, i.within, c.requires.order)) c.run_quietly.ensures.runs e.passed e.other e.noting

pub returns-in-Ok-Some-clause-runs : goal.returns-in-Ok-Some-clause-runs
returns-in-Ok-Some-clause-runs c =
    let i = c.loop-step.invariant in
    let within = c.run_quietly.ensures.within in
    let apart = c.if-step-end.false in
    let asked = rw c.in-Ok-Some.field-0-is at c.in-Ok-Some.ensures.asked in
    record {
      within = (omega (arith, asked, i.within), omega (arith, asked, within, i.within));
      at = c.in-Ok-Some.ensures.run.at;
      ended = tt;
      stopped = (omega (arith, asked, within, apart, i.within), rw c.in-Ok-Some.field-0-is at c.in-Ok-Some.ensures.stops);
      failed = λ _. tt;
      calls = λ call. calls_upto _ _ _ _ (calls_known _ _ _ _ _ _ _ i.run c.run_quietly.ensures.runs (i.calls call)) (omega (arith, asked));
      apart = λ call.
          let stays = rw c.in-Ok-Some.field-0-is at c.in-Ok-Some.ensures.stays in
          ap (λ (st : PartialState). is_call st.core) stays ∙ sym (ap (λ (v : StateView). is_call v.state.core) c.state.view_is) ∙ c.ends_before.ensures.other c.if-ends_before.false call;
    }

pub returns-in-Err-clause-runs : goal.returns-in-Err-clause-runs
returns-in-Err-clause-runs c =
    let i = c.loop-step.invariant in
    let e = c.pass_to.ensures in
    let within = c.run_quietly.ensures.within in
    let apart = c.if-step-end.false in
    let low = c.slow_step.ensures.low in
    let high = c.in-Err.ensures.failed in
    let here = known_on _ _ _ _ _ i.run _ _ (omega (arith, within, i.within, c.requires.order)) c.run_quietly.ensures.runs e.passed e.other e.noting in
    record {
      within = (omega (arith, low, i.within), omega (arith, high, within, apart, i.within));
      at = c.in-Err.ensures.run.at;
      ended = tt;
      stopped = tt;
      failed = λ anyway. let same = c.in-Err.ensures.unnoted anyway in omega (arith, same, within, apart, i.within);
      calls = λ call. calls_upto _ _ _ _ (one_more _ _ _ _ here.at (calls_known _ _ _ _ _ _ _ i.run c.run_quietly.ensures.runs (i.calls call))
          (sym (ap (λ (v : StateView). is_call v.state.core) c.state.view_is) ∙ c.ends_before.ensures.other c.if-ends_before.false call)) high;
      apart = λ _. tt;
    }

pub loop-step-preserved : goal.loop-step-preserved
loop-step-preserved c =
    let i = c.loop-step.invariant in
    let e = c.pass_to.ensures in
    let within = c.run_quietly.ensures.within in
    let apart = c.if-step-end.false in
    let here = known_on _ _ _ _ _ i.run _ _ (omega (arith, within, i.within, c.requires.order)) c.run_quietly.ensures.runs e.passed e.other e.noting in
    let asked = rw c.in-Ok-None.field-0-is at c.in-Ok-None.ensures.asked in
    record {
      run = c.in-Ok-None.ensures.run;
      within = (omega (arith, asked, i.within), omega (arith, asked, within, apart, i.within));
      notes = keeps_on _ _ _ i.notes (keeps_on _ _ _ (known_keeps _ _ _ _ _ i.run _ e.passed e.other e.noting) c.slow_step.ensures.notes);
      seen = λ l.
          let now = c.in-Ok-None.ensures.seen l in
          let known = e.passed (sym e.noting ∙ c.slow_step.ensures.notes.was l) in
          let before = i.seen (sym e.noting ∙ c.slow_step.ensures.notes.was l) in
          rw (known, before) at now ∙ omega (arith, asked);
      on = λ needed. c.in-Ok-None.ensures.noted needed ∙ e.noting ∙ i.on needed;
      calls = λ call. calls_upto _ _ _ _ (one_more _ _ _ _ here.at (calls_known _ _ _ _ _ _ _ i.run c.run_quietly.ensures.runs (i.calls call))
          (sym (ap (λ (v : StateView). is_call v.state.core) c.state.view_is) ∙ c.ends_before.ensures.other c.if-ends_before.false call)) (omega (arith, asked));
    }
