-- The states of a run, and how it ends.
use Rattle.std.proofs.Common.{◌≡◌, ℕ, zero, suc, ◌+◌, ◌-◌, ◌<◌, refl, ap, sym, subst, ◌∙◌, arith, add-one, Option, Some, None}
use Rattle.std.specs.Option.{option_map}
use Rattle.interaction_trees.specs.Outcome.{Outcome, Step, Stop}
use Rattle.interaction_trees.specs.Run.{RunResult, run_on, run_to_limit}
use Rattle.interaction_trees.specs.Steps.{state_of, next_state, after, map_outcome, map_run}

module _ {St X : Type 0} (outcome : St → Outcome St X) where
  -- A state that was reached follows from an earlier state by one step.
  pub step_before : (o : Option St) (st : St) → next_state outcome o ≡ Some st → (b : St) × (o ≡ Some b) × (outcome b ≡ Step st)
  step_before None st e = absurd (cc)
  step_before (Some b) st e = (b, refl, stepped (outcome b) e) where
    stepped : (o : Outcome St X) → state_of o ≡ Some st → o ≡ Step st
    stepped (Step x) e = let same : x ≡ st = cc in ap Step same
    stepped (Stop x) e = absurd (cc)

  pub after_zero : (start st : St) → st ≡ start → after outcome start 0 ≡ Some st
  unfolding after
  after_zero start st e = ap (λ (s : St). Some s) (sym e)

  after_suc : (start : St) (n : ℕ) (st next : St) → after outcome start n ≡ Some st → outcome st ≡ Step next → after outcome start (suc n) ≡ Some next
  unfolding after
  after_suc start n st next at went = ap (next_state outcome) at ∙ ap state_of went

  -- One more step.
  pub after_step : (start : St) (n : ℕ) (st next : St) → after outcome start n ≡ Some st → outcome st ≡ Step next → after outcome start (n + 1) ≡ Some next
  after_step start n st next at went = rw add-one (after_suc start n st next at went)

  -- What holds at the start, and after each step from a state where it holds, holds after each number of steps.
  pub holds_after : (start : St) (P : St → Type 0) → P start → ((n : ℕ) (b st : St) → after outcome start n ≡ Some b → P b → outcome b ≡ Step st → P st)
      → (n : ℕ) (st : St) → after outcome start n ≡ Some st → P st
  unfolding after
  holds_after start P first more zero st e = let same : start ≡ st = cc in subst P same first
  holds_after start P first more (suc n) st e =
      let (b, at, went) = step_before (after outcome start n) st e in
      more n b st at (holds_after start P first more n b at) went

  -- A run continues from each state that it reaches.
  reached : (limit : X) (start : St) (steps k n : ℕ) (st : St) → k + n ≡ steps → after outcome start n ≡ Some st → run_on outcome limit k n st ≡ run_on outcome limit steps 0 start
  unfolding after
  reached limit start steps k zero st e a = let same : start ≡ st = cc in let all : k ≡ steps = omega arith in rw (← same, all) refl
  reached limit start steps k (suc n) st e a =
      let (b, at, went) = step_before (after outcome start n) st a in
      let before = reached limit start steps (suc k) n b (omega arith) at in
      sym (ap (λ (o : Outcome St X). elim o as (λ _. RunResult St X) [ Step next ↦ run_on outcome limit k (suc n) next | Stop c ↦ record { state = b; steps = n; cause = c } ]) went) ∙ before

  -- A stop below the limit ends the run.
  pub run_stops : (limit : X) (start : St) (steps n : ℕ) (st : St) (c : X) → after outcome start n ≡ Some st → n < steps → outcome st ≡ Stop c
      → run_to_limit outcome limit steps start ≡ record { state = st; steps = n; cause = c }
  unfolding run_to_limit
  run_stops limit start steps n st c at below stop =
      let k = steps - n - 1 in
      let count : suc k + n ≡ steps = omega arith in
      sym (reached limit start steps (suc k) n st count at)
      ∙ ap (λ (o : Outcome St X). elim o as (λ _. RunResult St X) [ Step next ↦ run_on outcome limit k (suc n) next | Stop x ↦ record { state = st; steps = n; cause = x } ]) stop

  -- The limit ends the run.
  pub run_limited : (limit : X) (start : St) (steps n : ℕ) (st : St) → after outcome start n ≡ Some st → n ≡ steps
      → run_to_limit outcome limit steps start ≡ record { state = st; steps = n; cause = limit }
  unfolding run_to_limit
  run_limited limit start steps n st at e = sym (reached limit start steps 0 n st (omega arith) at)

-- Two machines of which one is seen on the other: at each state that one reaches, the outcomes are the same.
module _ {St Tt X : Type 0} (one : St → Outcome St X) (other : Tt → Outcome Tt X) (seen : St → Tt) (start : St)
    (same : (n : ℕ) (st : St) → after one start n ≡ Some st → other (seen st) ≡ map_outcome seen (one st)) where
  -- They have the same states.
  pub after_mapped : (n : ℕ) → after other (seen start) n ≡ option_map seen (after one start n)
  unfolding after
  after_mapped zero = refl
  after_mapped (suc n) = ap (next_state other) (after_mapped n) ∙ one_more (after one start n) (same n) where
    state_mapped : (o : Outcome St X) → state_of (map_outcome seen o) ≡ option_map seen (state_of o)
    state_mapped (Step st) = refl
    state_mapped (Stop x) = refl

    one_more : (o : Option St) → ((st : St) → o ≡ Some st → other (seen st) ≡ map_outcome seen (one st)) → next_state other (option_map seen o) ≡ option_map seen (next_state one o)
    one_more None h = refl
    one_more (Some st) h = ap state_of (h st refl) ∙ state_mapped (one st)

  step_mapped : (limit : X) (k n : ℕ) (st : St) (w : Outcome Tt X) (o : Outcome St X) → w ≡ map_outcome seen o
      → ((next : St) → o ≡ Step next → run_on other limit k (suc n) (seen next) ≡ map_run seen (run_on one limit k (suc n) next))
      → elim w as (λ _. RunResult Tt X) [ Step next ↦ run_on other limit k (suc n) next | Stop cause ↦ record { state = seen st; steps = n; cause = cause } ]
      ≡ map_run seen (elim o as (λ _. RunResult St X) [ Step next ↦ run_on one limit k (suc n) next | Stop cause ↦ record { state = st; steps = n; cause = cause } ])
  step_mapped limit k n st w (Step next) e h = rw e (h next refl)
  step_mapped limit k n st w (Stop cause) e h = rw e refl

  run_on_mapped : (limit : X) (k n : ℕ) (st : St) → after one start n ≡ Some st → run_on other limit k n (seen st) ≡ map_run seen (run_on one limit k n st)
  run_on_mapped limit zero n st at = refl
  run_on_mapped limit (suc k) n st at =
      step_mapped limit k n st (other (seen st)) (one st) (same n st at)
      (λ next went. run_on_mapped limit k (suc n) next (after_suc one start n st next at went))

  -- They have the same run.
  pub run_mapped : (limit : X) (steps : ℕ) → run_to_limit other limit steps (seen start) ≡ map_run seen (run_to_limit one limit steps start)
  unfolding run_to_limit
  run_mapped limit steps = run_on_mapped limit steps 0 start (after_zero one start start refl)
