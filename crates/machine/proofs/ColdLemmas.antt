-- Where a cold run ends, and that it is the run of the plain machine.
use Rattle.std.proofs.Common.{◌≡◌, ℕ, zero, suc, ◌+◌, ◌<◌, ◌⊎◌, inl, inr, refl, sym, ap, subst, ◌∙◌, Some, arith, add-one}
use Rattle.machine.specs.Outcome.{Outcome, Step, Stop}
use Rattle.machine.specs.Run.{RunResult, run_on, run_to_limit}
use Rattle.machine.specs.Steps as steps
use Rattle.machine.specs.Cause.{Cause}
use Rattle.machine.specs.Cause.TheVariants.{Limit}
use Rattle.machine.specs.Inputs.{Session}
use Rattle.machine.specs.StateView.{PartialState}
use Rattle.machine.specs.Session.{IsSession}
use Rattle.machine.specs.Machine.{session_answers, start, after, outcome, cold_run}
use Rattle.machine.specs.PlainState.{plain_run}
use Rattle.machine.specs.PlainLaid.{plain_run_of}
use Rattle.machine.proofs.RunLemmas.{after_step, after_zero, run_stops, run_limited}
use Rattle.machine.proofs.PlainSteps.{plain_machine_is_laid}

-- The end of a run of at most `most` steps: at a stop below that, or there.
pub record Ends {St X : Type 0} (outcome : St → Outcome St X) (limit : X) (start : St) (most : ℕ) (r : RunResult St X) : Type 0 where
  pub at : steps.after outcome start r.steps ≡ Some r.state
  pub why : ((r.steps < most) × (outcome r.state ≡ Stop r.cause)) ⊎ ((r.steps ≡ most) × (r.cause ≡ limit))

module _ {St X : Type 0} (outcome : St → Outcome St X) (limit : X) (start : St) (most : ℕ) where
  ends_by : (k n : ℕ) (st : St) (o : Outcome St X) → suc k + n ≡ most → steps.after outcome start n ≡ Some st → outcome st ≡ o
      → ((next : St) → o ≡ Step next → Ends outcome limit start most (run_on outcome limit k (suc n) next))
      → Ends outcome limit start most (elim o as (λ _. RunResult St X) [ Step next ↦ run_on outcome limit k (suc n) next | Stop cause ↦ record { state = st; steps = n; cause = cause } ])
  ends_by k n st (Step next) count at e more = more next refl
  ends_by k n st (Stop cause) count at e more = record { at = at; why = inl (omega (arith, count), e) }

  ends_on : (k n : ℕ) (st : St) → k + n ≡ most → steps.after outcome start n ≡ Some st → Ends outcome limit start most (run_on outcome limit k n st)
  ends_on zero n st count at = record { at = at; why = inr (omega (arith, count), refl) }
  ends_on (suc k) n st count at = ends_by k n st (outcome st) count at refl (λ next went.
      ends_on k (suc n) next (omega (arith, count)) (subst (λ m. steps.after outcome start m ≡ Some next) (add-one n) (after_step outcome start n st next at went)))

pub cold_ends : (s : Session) → Ends (outcome (session_answers s)) Limit start s.limit (cold_run s)
unfolding cold_run run_to_limit
cold_ends s = ends_on (outcome (session_answers s)) Limit start s.limit s.limit 0 start (omega arith) (after_zero (outcome (session_answers s)) start start refl)

-- A stop below the limit ends the cold run.
pub cold_stop : (s : Session) (n : ℕ) (st : PartialState) (c : Cause) → after (session_answers s) n ≡ Some st → n < s.limit → outcome (session_answers s) st ≡ Stop c → cold_run s ≡ record { state = st; steps = n; cause = c }
unfolding cold_run
cold_stop s n st c at below stop = run_stops (outcome (session_answers s)) Limit start s.limit n st c at below stop

-- The limit ends the cold run.
pub cold_limit : (s : Session) (n : ℕ) (st : PartialState) → after (session_answers s) n ≡ Some st → n ≡ s.limit → cold_run s ≡ record { state = st; steps = n; cause = Limit }
unfolding cold_run
cold_limit s n st at e = run_limited (outcome (session_answers s)) Limit start s.limit n st at e

-- A report on the cold run is a report on the plain run.
pub reports_run : (s t : Session) (st : PartialState) (steps : ℕ) (cause : Cause) → IsSession s → t ≡ s → cold_run s ≡ record { state = st; steps = steps; cause = cause }
    → plain_run_of t (record { state = st; steps = steps; cause = cause }) ≡ plain_run t
reports_run s t st steps cause limits same is =
    sym (subst (λ (x : Session). plain_run x ≡ plain_run_of x (cold_run x)) (sym same) (plain_machine_is_laid.runs s limits) ∙ ap (plain_run_of t) (ap cold_run same ∙ is))
