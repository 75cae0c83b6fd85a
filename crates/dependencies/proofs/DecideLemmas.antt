-- What a whole run asked decides it.
use Rattle.std.proofs.Common.{◌≡◌, ℕ, ◌+◌, ◌<◌, ◌⊎◌, Some, inl, inr, refl, ap, sym, subst, ◌∙◌, arith}
use Rattle.machine.specs.Tree.{AgreeOn}
use Rattle.machine.proofs.DependenceLemmas as lemmas
use Rattle.machine.specs.Inputs.{Session}
use Rattle.machine.specs.Outcome.{Stop}
use Rattle.machine.specs.Run.{RunResult}
use Rattle.machine.specs.Cause.{Cause}
use Rattle.machine.specs.Cause.TheVariants.{Limit}
use Rattle.machine.specs.StateView.{PartialState}
use Rattle.machine.specs.Session.{IsSession}
use Rattle.machine.specs.Step.{next}
use Rattle.machine.specs.Machine.{Answers, session_answers, session_tree, outcome_with, start, outcome, after, looks, looks_at, cold_run}
use Rattle.machine.specs.PlainLaid.{plain_run_of}
use Rattle.machine.specs.FirstLooks.{first_look, asking_steps}
use Rattle.machine.specs.Runs.{NotesWholeRun}
use Rattle.machine.proofs.FirstLemmas.{same_after, same_first, looks_here}
use Rattle.machine.proofs.AskedLemmas.{agree_each, noted_by}
use Rattle.machine.proofs.ColdLemmas.{cold_ends, cold_stop, cold_limit}
use Rattle.machine.proofs.PlainSteps.{plain_machine_is_laid}
use Rattle.machine.proofs.WholeRuns.{stop_asks, limit_asks}
use Rattle.first_looks.specs.declared.question.Question.{Question}
use Rattle.first_looks.specs.FirstLooks.{FirstLooksView}
use Rattle.dependencies.specs.Dependencies.{first_asked, AreDependencies, AnswersAlike, HasSameRun, DependenciesDecide}

-- ---- the dependencies of a run that ended

-- The dependencies of a whole run that noted its looks.
pub are_dependencies : (s : Session) (t : FirstLooksView) (st : PartialState) (steps : ℕ) (cause : Cause) → cold_run s ≡ record { state = st; steps = steps; cause = cause } → NotesWholeRun s t steps → AreDependencies s t steps cause
are_dependencies s t st steps cause is (known, seen) =
    let same : steps ≡ (cold_run s).steps = ap (λ (r : RunResult PartialState Cause). r.steps) (sym is) in
    record {
      looks = λ q. known.entry q ∙ ap (first_look (session_answers s) q) (seen ∙ ap (λ (n : ℕ). asking_steps n s.limit) same);
      steps_are = same;
      cause_is = ap (λ (r : RunResult PartialState Cause). r.cause) (sym is);
    }

-- ---- the law

same_outcome : (f g : Answers) (st : PartialState) → AgreeOn (looks_at f st) f g → outcome g st ≡ outcome f st
same_outcome = lemmas.same_outcome session_tree (λ (st : PartialState). st.own) (λ (st : PartialState). next st.core) outcome_with start

module _ (s t : Session) (limits : t.limit ≡ s.limit) (alike : AnswersAlike s t) where
  -- Both answer alike what the states of the run ask, a stop included.
  agree : (i : ℕ) → i < asking_steps (cold_run s).steps s.limit → AgreeOn (looks (session_answers s) i) (session_answers s) (session_answers t)
  agree i below = agree_each (session_answers s) (session_answers t) (looks (session_answers s) i) (λ q asked.
      let (m, there, low) = noted_by (session_answers s) q (asking_steps (cold_run s).steps s.limit) i below asked in
      alike q m there)

  same_run : (r : RunResult PartialState Cause) → cold_run s ≡ r → after (session_answers s) r.steps ≡ Some r.state
      → ((r.steps < s.limit) × (outcome (session_answers s) r.state ≡ Stop r.cause)) ⊎ ((r.steps ≡ s.limit) × (r.cause ≡ Limit)) → cold_run t ≡ r
  same_run r is at (inl (below, stop)) =
      let counts : asking_steps (cold_run s).steps s.limit ≡ r.steps + 1 = ap (λ (x : RunResult PartialState Cause). asking_steps x.steps s.limit) is ∙ stop_asks r.steps s.limit below in
      let there = same_after (session_answers s) (session_answers t) r.steps (λ i low. agree i (omega (arith, counts, low))) ∙ at in
      let here = subst (λ qs. AgreeOn qs (session_answers s) (session_answers t)) (looks_here (session_answers s) r.steps r.state at) (agree r.steps (omega (arith, counts))) in
      cold_stop t r.steps r.state r.cause there (omega (arith, below, limits)) (same_outcome (session_answers s) (session_answers t) r.state here ∙ stop)
  same_run r is at (inr (same, cause)) =
      let counts : asking_steps (cold_run s).steps s.limit ≡ r.steps = ap (λ (x : RunResult PartialState Cause). asking_steps x.steps s.limit) is ∙ limit_asks r.steps s.limit same in
      let there = same_after (session_answers s) (session_answers t) r.steps (λ i low. agree i (omega (arith, counts, low))) ∙ at in
      cold_limit t r.steps r.state there (same ∙ sym limits) ∙ ap (λ (c : Cause). record { state = r.state; steps = r.steps; cause = c }) (sym cause)

  same_cold : cold_run t ≡ cold_run s
  same_cold = let ends = cold_ends s in same_run (cold_run s) refl ends.at ends.why

  same_asked : (q : Question) → first_asked t q ≡ first_asked s q
  same_asked q =
      ap (first_look (session_answers t) q) (ap (λ (r : RunResult PartialState Cause). asking_steps r.steps t.limit) same_cold ∙ ap (asking_steps (cold_run s).steps) limits)
      ∙ same_first (session_answers s) (session_answers t) q (asking_steps (cold_run s).steps s.limit) agree

  has_same_run : IsSession s → IsSession t → HasSameRun s t
  has_same_run within other_within = record {
    run = same_cold;
    plain = plain_machine_is_laid.runs s within;
    other_plain = plain_machine_is_laid.runs t other_within ∙ ap (plain_run_of t) same_cold;
    asked = same_asked;
  }

pub dependencies_decide : DependenciesDecide
dependencies_decide s t within other_within limits alike = has_same_run s t limits alike within other_within
