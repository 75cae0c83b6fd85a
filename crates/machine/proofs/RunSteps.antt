-- A run, while its steps are executed.
use Rattle.std.proofs.Common.{inl, inr, ◌≡◌, ◌≢◌, ℕ, ◌+◌, ◌<◌, ◌≤◌, ◌⊎◌, true, false, length, max, Option, Some, None, Ok, Err, refl, sym, ◌∙◌, ap, subst, arith, IfErr, IfOk, IfSome, OnErr, OnOk}
use Rattle.std.proofs.lemmas.Bool.{cases_lt}
use Rattle.std.proofs.lemmas.Bool.Decides.{eqb_tells}
use Rattle.std.proofs.Math.Nat.{eq-or-lt_of_le}
use Rattle.std.specs.declared.result.Result.{Result}
use Rattle.std.specs.declared.alloc.AllocError.{AllocError}
use Rattle.console_calls.specs.declared.cause.Cause.{Cause}
use Rattle.first_looks.specs.FirstLooks.{with_seen}
use Rattle.interaction_trees.specs.Outcome.{Stop}
use Rattle.interaction_trees.proofs.RunLemmas.{after_step}
use Rattle.pagemem.specs.ImageParts.{image_with}
use Rattle.machine.specs.declared.noting.Noting.{Noting}
use Rattle.machine.specs.declared.noting.Noting.TheVariants.{Failed, Looks, Nothing}
use Rattle.machine.specs.declared.noting.RunNotes.{RunNotes}
use Rattle.machine.specs.declared.session.TheConstants.{STEP_LIMIT}
use Rattle.machine.specs.declared.stretch.Until.{Until}
use Rattle.machine.specs.declared.stretch.Until.TheVariants.{Call, End, EndUnnoted}
use Rattle.machine.specs.Bound.{IsBound}
use Rattle.machine.specs.FirstLooks.{AllNoted, ForgetsSeenStep, IsFirstLooks, NotesSeenStep}
use Rattle.machine.specs.Inputs.{Session}
use Rattle.machine.specs.Machine.{Answers, AddsLooks, HasNoQuestions, after, looks, looks_from, outcome, session_answers, start}
use Rattle.machine.specs.Runs.{IsAt, IsNoting, KeepsNotes, asked_by, seen_by}
use Rattle.machine.specs.StateView.{AllLooks, PartialState, StateView}
use Rattle.machine.specs.Step.{is_call}
use Rattle.machine.specs.Stretch.{CallsNothing, Ends, GoesQuietly, RunsQuietly}
use Rattle.machine.specs.TakesStep.{TakesStep}
use Rattle.machine.proofs.FirstLemmas.{erased_known}
use Rattle.machine.proofs.NoteLemmas.{passed, seen_before, seen_now}
use Rattle.machine.proofs.StretchLemmas.{looked_after}

pub keeps_on : (a b c : RunNotes) → KeepsNotes a b → KeepsNotes b c → KeepsNotes a c
keeps_on a b c first then = record { grows = omega (arith, first.grows, then.grows); on = λ h. then.on (first.on h); was = λ l. first.was (then.was l) }

-- A run notes its looks or not.
if_noting : {P : Type 0} (noting : Noting) → (noting ≡ Looks → P) → ((noting ≡ Looks → ⊥) → P) → P
if_noting Nothing here other = other (λ e. cc)
if_noting Looks here other = here refl
if_noting (Failed error) here other = other (λ e. cc)

-- What comes of the notes when step n asked.
pub record Noted (f : Answers) (n : ℕ) (was is : RunNotes) (looked : AllLooks) : Type 0 where
  pub first : IsFirstLooks f is.looks
  pub seen_in : is.looks.seen ≤ STEP_LIMIT
  pub all : is.noting ≡ Looks → AllNoted is.looks looked
  pub seen : is.noting ≡ Looks → is.looks.seen ≡ max was.looks.seen (n + 1)
  pub keeps : KeepsNotes was is

module _ (s : Session) (n : ℕ) (old : StateView) (was is : RunNotes) (run : IsAt s n old was) where
  -- More steps over known cells.
  pub known_on : (new : StateView) (k : ℕ) → n + k ≤ STEP_LIMIT → RunsQuietly k old new → (was.noting ≡ Looks → is.looks ≡ with_seen was.looks (max was.looks.seen (n + k)))
      → ((was.noting ≡ Looks → ⊥) → is.looks ≡ was.looks) → is.noting ≡ was.noting → IsAt s (n + k) new is
  known_on new k high ran passing other same = record {
    at = goes.at;
    bound = ran.beneath ∙ run.bound;
    first = if_noting was.noting (λ e. rw (passing e) (first e)) (λ e. rw (other e) run.first);
    seen_in = if_noting was.noting (λ e. rw (passing e) (omega (arith, high, run.seen_in))) (λ e. rw (other e) run.seen_in);
    noted = λ e. rw (passing (sym same ∙ e), ran.looked) (omega arith, (run.noted (sym same ∙ e)).1);
  } where
    goes : GoesQuietly s n k old.looked new.state
    goes = ran.goes s n (record { bound = run.bound; at = run.at })

    first : was.noting ≡ Looks → IsFirstLooks (session_answers s) (with_seen was.looks (max was.looks.seen (n + k)))
    first e =
        let noted = run.noted e in
        passed (session_answers s) was.looks old.looked run.first noted.1 (max was.looks.seen (n + k)) (omega arith) (λ i low below. goes.quiet i (omega (arith, low, noted.0)) (omega (arith, low, below)))

  pub known_keeps : (upto : ℕ) → (was.noting ≡ Looks → is.looks ≡ with_seen was.looks (max was.looks.seen upto)) → ((was.noting ≡ Looks → ⊥) → is.looks ≡ was.looks) → is.noting ≡ was.noting
      → KeepsNotes was is
  known_keeps upto passing other same = record {
    grows = if_noting was.noting (λ e. rw (passing e) (omega arith)) (λ e. rw (other e) (omega arith));
    on = λ h. rw same h;
    was = λ l. sym same ∙ l;
  }

  -- One more step, or a stop.
  module _ (mid new : StateView) (stop : Option Cause) (took : TakesStep s old (Ok stop) mid) (below : n < STEP_LIMIT) (bound : IsBound s mid) (same : new.state ≡ mid.state)
      (beneath : new.beneath ≡ mid.beneath) (cells : new.looked.cells ≡ mid.looked.cells) (drained : HasNoQuestions new.looked)
      (next : was.noting ≡ Looks → n ≡ was.looks.seen → (NotesSeenStep was.looks is.looks (looks_from (length old.looked.cells) mid.looked) × (is.noting ≡ Looks))
      ⊎ (ForgetsSeenStep was.looks is.looks × (IsNoting is.noting × (is.noting ≡ Looks → ⊥))))
      (other : (was.noting ≡ Looks → n ≡ was.looks.seen → ⊥) → (is.looks ≡ was.looks) × (is.noting ≡ was.noting)) where
    asks : AddsLooks old.looked (looks (session_answers s) n) mid.looked
    asks = looked_after s n old mid run.at took

    -- The notes stay the same.
    unnoted : (was.noting ≡ Looks → (n < was.looks.seen) × AllNoted was.looks new.looked) → (is.looks ≡ was.looks) × (is.noting ≡ was.noting) → Noted (session_answers s) n was is new.looked
    unnoted all (e, o) = record {
      first = rw e run.first;
      seen_in = rw e run.seen_in;
      all = λ l. rw e (all (sym o ∙ l)).1;
      seen = λ l. let past = (all (sym o ∙ l)).0 in rw e (omega (arith, past));
      keeps = record { grows = rw e (omega arith); on = λ h. rw o h; was = λ l. sym o ∙ l };
    }

    pub noted : Noted (session_answers s) n was is new.looked
    noted = if_noting was.noting (λ l. at_seen l (eq-or-lt_of_le {n = n} {m = was.looks.seen} (run.noted l).0)) (λ no. unnoted (λ l. absurd (no l)) (other (λ l _. no l))) where
      here : was.noting ≡ Looks → n ≡ was.looks.seen → (NotesSeenStep was.looks is.looks (looks_from (length old.looked.cells) mid.looked) × (is.noting ≡ Looks))
          ⊎ (ForgetsSeenStep was.looks is.looks × (IsNoting is.noting × (is.noting ≡ Looks → ⊥))) → Noted (session_answers s) n was is new.looked
      here l e (inl (now, on)) =
          let notes = seen_now (session_answers s) was.looks is.looks n old.looked mid.looked new.looked run.first (run.noted l).1 took.extends asks cells drained e now in
          let seen = now.seen in
          record {
            first = notes.0;
            seen_in = omega (arith, seen, e, below);
            all = λ _. notes.1;
            seen = λ _. omega (arith, seen, e);
            keeps = record { grows = omega (arith, seen); on = λ _. rw on tt; was = λ _. l };
          }
      here l e (inr (behind, on_off)) =
          let seen = behind.seen in
          record {
            first = erased_known (session_answers s) was.looks is.looks run.first behind.entries seen;
            seen_in = omega (arith, seen, run.seen_in);
            all = λ is_on. absurd (on_off.1 is_on);
            seen = λ is_on. absurd (on_off.1 is_on);
            keeps = record { grows = omega (arith, seen); on = λ _. on_off.0; was = λ is_on. absurd (on_off.1 is_on) };
          }

      at_seen : was.noting ≡ Looks → (n ≡ was.looks.seen) ⊎ (n < was.looks.seen) → Noted (session_answers s) n was is new.looked
      at_seen l (inl e) = here l e (next l e)
      at_seen l (inr past) =
          unnoted (λ _. (past, seen_before (session_answers s) was.looks is.looks n old.looked mid.looked new.looked run.first (run.noted l).1 took.extends asks cells drained past))
          (other (λ _ e. omega (arith, e, past)))

    pub taken : (k : ℕ) → asked_by k stop ≡ n + 1 → IsAt s k new is
    taken k asked = record {
      at = at stop took asked;
      bound = ap image_with beneath ∙ bound;
      first = noted.first;
      seen_in = noted.seen_in;
      noted = λ l. (low stop asked (noted.seen l), noted.all l);
    } where
      at : (stop : Option Cause) → TakesStep s old (Ok stop) mid → asked_by k stop ≡ n + 1 → after (session_answers s) k ≡ Some new.state
      at None w e = ap (after (session_answers s)) e ∙ after_step (outcome (session_answers s)) start n old.state _ run.at w.outcome ∙ ap (λ (st : PartialState). Some st) (sym same)
      at (Some cause) w e = ap (after (session_answers s)) (let here : k ≡ n = omega (arith, e) in here) ∙ run.at ∙ ap (λ (st : PartialState). Some st) (sym (same ∙ w.stays))

      low : (stop : Option Cause) → asked_by k stop ≡ n + 1 → is.looks.seen ≡ max was.looks.seen (n + 1) → k ≤ is.looks.seen
      low None e f = omega (arith, e, f)
      low (Some cause) e f = omega (arith, e, f)

  -- A step that failed.
  pub failed_at : (mid : StateView) (e e' : AllocError) → TakesStep s old (Err e) mid → IsBound s mid → is.looks ≡ was.looks → is.noting ≡ Failed e' → IsAt s n mid is
  failed_at mid e e' w bound same off = record {
    at = run.at ∙ ap (λ (st : PartialState). Some st) (sym w.failed);
    bound = bound;
    first = rw same run.first;
    seen_in = rw same run.seen_in;
    noted = λ l. absurd (let both : Failed e' ≡ Looks = sym off ∙ l in cc);
  }

-- ---- calls

-- One stretch after another.
pub calls_on : (f : Answers) (from n end : ℕ) → CallsNothing f from n → CallsNothing f n end → CallsNothing f from end
calls_on f from n end before then i st low high at = elim (cases_lt i n) [
  | inl below ↦ before i st low below at
  | inr above ↦ then i st above high at
]

pub calls_upto : (f : Answers) (from n k : ℕ) → CallsNothing f from n → k ≤ n → CallsNothing f from k
calls_upto f from n k calls less i st low high at = calls i st low (omega (arith, less, high)) at

-- One more step that is no call.
pub one_more : (f : Answers) (from n : ℕ) (old : PartialState) → after f n ≡ Some old → CallsNothing f from n → is_call old.core ≡ false → CallsNothing f from (n + 1)
one_more f from n old at calls apart i st above below there = elim (eqb_tells i n) [
  | inl same ↦
      let both : Some old ≡ Some st = sym at ∙ subst (λ (k : ℕ). after f k ≡ Some st) same.1 there in
      let equal : old ≡ st = cc in
      ap (λ (x : PartialState). is_call x.core) (sym equal) ∙ apart
  | inr other ↦ calls i st above (let differ : i ≢ n = other.1 in omega arith) there
]

-- More steps over known cells are no calls.
pub calls_known : (s : Session) (from n k : ℕ) (old new : StateView) (was : RunNotes) → IsAt s n old was → RunsQuietly k old new → CallsNothing (session_answers s) from n
    → CallsNothing (session_answers s) from (n + k)
calls_known s from n k old new was run ran calls =
    calls_on (session_answers s) from n (n + k) calls (ran.goes s n (record { bound = run.bound; at = run.at })).calls

-- ---- where a run ends

pub ends_here : (until : Until) (n end : ℕ) (st : PartialState) → (n ≡ end) ⊎ ((until ≡ Call) × (is_call st.core ≡ true)) → Ends until n end st
ends_here End n end st (inl e) = e
ends_here End n end st (inr h) = absurd (let no : End ≡ Call = h.0 in cc)
ends_here EndUnnoted n end st (inl e) = e
ends_here EndUnnoted n end st (inr h) = absurd (let no : EndUnnoted ≡ Call = h.0 in cc)
ends_here Call n end st (inl e) = λ below. absurd (omega (arith, e, below))
ends_here Call n end st (inr h) = λ _. h.1

-- A stop follows the state that is left.
pub stops_at : (s : Session) (old mid : StateView) (st : PartialState) (stop : Option Cause) → TakesStep s old (Ok stop) mid → st ≡ mid.state
    → IfSome stop (λ cause. outcome (session_answers s) st ≡ Stop cause)
stops_at s old mid st None w same = tt
stops_at s old mid st (Some cause) w same = ap (outcome (session_answers s)) (same ∙ w.stays) ∙ w.outcome

-- All looks of a run are noted if it did not fail.
pub all_noted : (from n : ℕ) (was is : Noting) (seen seen' : ℕ) (result : Result (Option Cause) AllocError) → from ≤ n → OnOk result (is ≡ was)
    → IfOk result (λ stop. is ≡ Looks → seen' ≡ max seen (asked_by n stop)) → seen_by was seen ≡ Some from → IfOk result (λ stop. seen_by is seen' ≡ Some (asked_by n stop))
all_noted from n Nothing is seen seen' result low same to e = absurd (cc)
all_noted from n (Failed error) is seen seen' result low same to e = absurd (cc)
all_noted from n Looks is seen seen' (Err error) low same to e = tt
all_noted from n Looks is seen seen' (Ok stop) low same to e =
    let here : seen ≡ from = cc in
    rw same (ap (λ (k : ℕ). Some k) (to same ∙ past stop here)) where
      past : (stop : Option Cause) → seen ≡ from → max seen (asked_by n stop) ≡ asked_by n stop
      past None here = omega (arith, here, low)
      past (Some cause) here = omega (arith, here, low)

-- A run that failed notes nothing.
pub none_noted : (is : Noting) (seen : ℕ) (result : Result (Option Cause) AllocError) → IfErr result (λ e. is ≡ Failed e) → OnErr result (seen_by is seen ≡ None)
none_noted is seen (Ok stop) off = tt
none_noted is seen (Err error) off = rw off refl
