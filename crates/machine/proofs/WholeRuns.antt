-- What a run that ended at its limit, or at a stop before it, has done.
use Rattle.std.proofs.Common.{◌≡◌, ℕ, ◌+◌, ◌<◌, Option, Some, None, refl, ap, sym, ◌∙◌, arith, unwrap_or}
use Rattle.std.proofs.lemmas.Bool.{lt-ltb, le-ltb}
use Rattle.console_calls.specs.declared.cause.Cause.{Cause}
use Rattle.console_calls.specs.declared.cause.Cause.TheVariants.{Limit}
use Rattle.first_looks.specs.FirstLooks.{FirstLooksView}
use Rattle.machine.specs.declared.noting.Noting.{Noting}
use Rattle.machine.specs.declared.noting.Noting.TheVariants.{Failed, Looks, Nothing}
use Rattle.machine.specs.Inputs.{Session}
use Rattle.machine.specs.StateView.{PartialState}
use Rattle.machine.specs.Machine.{session_answers, after, cold_run}
use Rattle.machine.specs.FirstLooks.{IsFirstLooks, asking_steps}
use Rattle.machine.specs.Runs.{EndsBy, NotesWholeRun, RunView, asked_by, seen_by}
use Rattle.machine.specs.PlainState.{PlainRun, plain_run}
use Rattle.machine.specs.Run.{RunResult}
use Rattle.machine.specs.Session.{IsSession}
use Rattle.machine.proofs.ColdLemmas.{cold_limit, cold_stop}
use Rattle.machine.proofs.PlainSteps.{plain_machine_is_laid}

pub stop_asks : (n limit : ℕ) → n < limit → asking_steps n limit ≡ n + 1
stop_asks n limit below = rw (lt-ltb n limit below) refl

pub limit_asks : (n limit : ℕ) → n ≡ limit → asking_steps n limit ≡ n
limit_asks n limit same = rw (le-ltb n limit (omega (arith, same))) refl

module _ (s : Session) (r : RunView) (same : r.session ≡ s) where
  -- It is the cold run.
  pub is_cold : (st : PartialState) → after (session_answers r.session) r.step ≡ Some st → (stop : Option Cause) (cause : Cause) → EndsBy r s.limit stop → cause ≡ unwrap_or stop Limit
      → cold_run s ≡ record { state = st; steps = r.step; cause = cause }
  is_cold st at None cause ends is =
      rw is (cold_limit s r.step st (ap (λ (x : Session). after (session_answers x) r.step) (sym same) ∙ at) ends)
  is_cold st at (Some stop) cause (below, there, at_stop, stops) is =
      let here : there ≡ st = let both : Some there ≡ Some st = sym at_stop ∙ at in cc in
      rw is (cold_stop s r.step st stop (ap (λ (x : Session). after (session_answers x) r.step) (sym same) ∙ at) below
      (rw (here, same) at stops))

  asks : (stop : Option Cause) → EndsBy r s.limit stop → asked_by r.step stop ≡ asking_steps r.step s.limit
  asks None ends = sym (limit_asks r.step s.limit ends)
  asks (Some cause) ends = sym (stop_asks r.step s.limit ends.0)

  -- All of its looks are noted.
  pub noted_whole : (t : FirstLooksView) (noting : Noting) (stop : Option Cause) → IsFirstLooks (session_answers r.session) t → seen_by noting t.seen ≡ Some (asked_by r.step stop) → EndsBy r s.limit stop
      → NotesWholeRun s t r.step
  noted_whole t Nothing stop first is ends = absurd (cc)
  noted_whole t (Failed error) stop first is ends = absurd (cc)
  noted_whole t Looks stop first is ends =
      let seen : t.seen ≡ asked_by r.step stop = cc in
      (rw same at first, seen ∙ asks stop ends)

-- Its text is the text of the plain run.
pub text_of_ended : (r : RunView) (st : PartialState) (stop : Option Cause) → IsSession r.session → after (session_answers r.session) r.step ≡ Some st → EndsBy r r.session.limit stop
    → st.core.desk.text ≡ (plain_run r.session).state.core.desk.text
text_of_ended r st stop is at ends =
    let cold = is_cold r.session r refl st at stop (unwrap_or stop Limit) ends refl in
    sym (ap (λ (p : PlainRun). p.state.core.desk.text) (plain_machine_is_laid.runs r.session is)
    ∙ ap (λ (c : RunResult PartialState Cause). c.state.core.desk.text) cold)
