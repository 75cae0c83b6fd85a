-- The console text only grows.
use Rattle.std.proofs.Common.{◌≡◌, ℕ, zero, suc, ◌+◌, ◌-◌, ◌≤◌, List, [], ◌++◌, length, take, Option, Some, refl, sym, ◌∙◌, ap, subst, arith, append_assoc, length-append, zero-add, inl, inr}
use native.Mathlib.Nat.{suc-add}
use Rattle.std.proofs.lemmas.Bool.{cases_lt}
use Rattle.std.proofs.lemmas.List.{append-nil}
use Rattle.std.proofs.Math.Seq.{take-append_seam}
use Rattle.interaction_trees.specs.Tree.{result_of}
use Rattle.interaction_trees.specs.Outcome.{Outcome, Step, Stop}
use Rattle.interaction_trees.specs.Steps as steps
use Rattle.interaction_trees.specs.Dependence as dependence
use Rattle.console_calls.specs.declared.cause.Cause.{Cause}
use Rattle.file_calls.specs.Deletes.{own_after_change}
use Rattle.machine.specs.Inputs.{Session}
use Rattle.machine.specs.StateView.{PartialState}
use Rattle.machine.specs.Step.{StepEnd, Went, Stopped, desk_with, next}
use Rattle.machine.specs.Machine.{Answers, session_answers, laid, with_cells, outcome_with, outcome, after, cold_run}
use Rattle.interaction_trees.proofs.RunLemmas.{step_before}
use Rattle.machine.specs.PlainState.{PlainRun, plain_run}
use Rattle.machine.specs.Session.{IsSession}
use Rattle.machine.proofs.ColdLemmas.{cold_ends}
use Rattle.machine.proofs.PlainSteps.{plain_machine_is_laid}

abbrev Longer : List ℕ → List ℕ → Type 0
Longer old new = (more : List ℕ) × (new ≡ old ++ more)

longer_itself : (xs : List ℕ) → Longer xs xs
longer_itself xs = ([], sym (append-nil xs))

longer_further : (xs ys zs : List ℕ) → Longer xs ys → Longer ys zs → Longer xs zs
longer_further xs ys zs h k = (h.0 ++ k.0, k.1 ∙ ap (λ (l : List ℕ). l ++ k.0) h.1 ∙ append_assoc xs h.0 k.0)

-- ---- a step

made_grows : (st st' : PartialState) (e : StepEnd) → outcome_with st e ≡ Step st' → Longer st.core.desk.text st'.core.desk.text
made_grows st st' (Went r spot bytes wrote change) e =
    let same : record { core = record { regs = r; desk = desk_with st.core.desk spot bytes }; own = record { cells = with_cells st.own.cells wrote.cells; files = own_after_change change st.own.files } } ≡ st' = cc in
    subst (λ (x : PartialState). Longer st.core.desk.text x.core.desk.text) same (bytes, refl)
made_grows st st' (Stopped cause) e = absurd (cc)

step_grows : (f : Answers) (st st' : PartialState) → outcome f st ≡ Step st' → Longer st.core.desk.text st'.core.desk.text
unfolding dependence.outcome
step_grows f st st' e = made_grows st st' (result_of (laid st.own f) (next st.core)) e

-- ---- a run

some_is : {a b : PartialState} → Some a ≡ Some b → a ≡ b
some_is e = cc

text_grows : (f : Answers) (n k : ℕ) (a b : PartialState) → after f n ≡ Some a → after f (k + n) ≡ Some b → Longer a.core.desk.text b.core.desk.text
unfolding steps.after
text_grows f n zero a b first last =
    let same : a ≡ b = some_is (sym first ∙ rw zero-add at last) in
    subst (λ (x : PartialState). Longer a.core.desk.text x.core.desk.text) same (longer_itself a.core.desk.text)
text_grows f n (suc k) a b first last =
    let (before, at, went) = step_before (outcome f) (after f (k + n)) b (rw suc-add at last) in
    longer_further _ _ _ (text_grows f n k a before first at) (step_grows f before b went)

-- The text of an earlier state is a prefix of a later one's.
pub text_begins : (f : Answers) (n m : ℕ) (a b : PartialState) → n ≤ m → after f n ≡ Some a → after f m ≡ Some b → take (length a.core.desk.text) b.core.desk.text ≡ a.core.desk.text
text_begins f n m a b h first last =
    let count : (m - n) + n ≡ m = omega arith in
    let all = text_grows f n (m - n) a b first (rw count last) in
    ap (take (length a.core.desk.text)) all.1 ∙ take-append_seam a.core.desk.text all.0

-- It is no longer than the later one's.
pub text_length : (f : Answers) (n m : ℕ) (a b : PartialState) → n ≤ m → after f n ≡ Some a → after f m ≡ Some b → length a.core.desk.text ≤ length b.core.desk.text
text_length f n m a b h first last =
    let count : (m - n) + n ≡ m = omega arith in
    let all = text_grows f n (m - n) a b first (rw count last) in
    let long : length b.core.desk.text ≡ length (a.core.desk.text ++ all.0) = ap length all.1 in
    omega (arith, long, length-append a.core.desk.text all.0)

-- ---- a whole run

reached : {o : Option PartialState} {a b : PartialState} → o ≡ Some a → o ≡ Some b → a ≡ b
reached p q = cc

differs : {x y : Outcome PartialState Cause} (b : PartialState) (cause : Cause) → Step b ≡ x → x ≡ y → y ≡ Stop cause → ⊥
differs b cause p q r = cc

-- No step follows a stop.
none_follows : (f : Answers) (n k : ℕ) (a b : PartialState) (cause : Cause) → after f n ≡ Some a → outcome f a ≡ Stop cause → after f (suc k + n) ≡ Some b → ⊥
unfolding steps.after
none_follows f n zero a b cause first stop last =
    let (before, at, went) = step_before (outcome f) (after f n) b (rw (suc-add, zero-add) at last) in
    let same : before ≡ a = reached at first in
    differs b cause (sym went) (ap (outcome f) same) stop
none_follows f n (suc k) a b cause first stop last =
    let (before, at, went) = step_before (outcome f) (after f (suc k + n)) b (rw suc-add at last) in
    none_follows f n k a before cause first stop at

-- A run that did not reach its limit yet has no more steps than the whole run.
within_whole : (s : Session) (n : ℕ) (st : PartialState) → after (session_answers s) n ≡ Some st → n ≤ s.limit → n ≤ (cold_run s).steps
within_whole s n st at within =
    let ends = cold_ends s in
    elim ends.why [
      | inl stops ↦ elim (cases_lt (cold_run s).steps n) [
        | inl past ↦
            let count : suc (n - (cold_run s).steps - 1) + (cold_run s).steps ≡ n = omega (arith, past) in
            absurd (none_follows (session_answers s) (cold_run s).steps (n - (cold_run s).steps - 1) (cold_run s).state st (cold_run s).cause ends.at stops.1 (rw count at))
        | inr low ↦ low
      ]
      | inr limited ↦ omega (arith, within, limited.0)
    ]

-- Such a run has printed a beginning of the text of the whole run.
pub text_of_run : (s : Session) (n : ℕ) (st : PartialState) → IsSession s → after (session_answers s) n ≡ Some st → n ≤ s.limit
    → st.core.desk.text ≡ take (length st.core.desk.text) (plain_run s).state.core.desk.text
text_of_run s n st is at within =
    sym (ap (λ (r : PlainRun). take (length st.core.desk.text) r.state.core.desk.text) (plain_machine_is_laid.runs s is)
    ∙ text_begins (session_answers s) n (cold_run s).steps st (cold_run s).state (within_whole s n st at within) at (cold_ends s).at)
