-- What is kept of a state that a run reached, and the text that belongs to it.
use Rattle.std.proofs.Common.{◌≡◌, ℕ, ◌<◌, ◌≤◌, Bool, true, false, List, [], ◌∷◌, length, take, max, Option, Some, ◌⊎◌, inl, inr, refl, ap, sym, ◌∙◌, arith, cond, nat_lt}
use Rattle.std.specs.Prelude.{IsErr, IsOk, Result, Ok, Err}
use Rattle.std.specs.declared.alloc.AllocError.{AllocError}
use Rattle.std.proofs.lemmas.Bool.Decides.{nat_tests}
use Rattle.circular_buffer.specs.Buffer.{Buffer}
use Rattle.std.proofs.lemmas.List.{take_all, length-take-le, take-take}
use Rattle.machine.specs.declared.noting.Noting.{Noting}
use Rattle.machine.specs.declared.noting.RunNotes.{RunNotes}
use Rattle.machine.specs.declared.session.TheConstants.{STEP_LIMIT}
use Rattle.machine.specs.FirstLooks.{IsFirstLooks}
use Rattle.machine.specs.Inputs.{Session}
use Rattle.machine.specs.StateView.{PartialState}
use Rattle.machine.specs.Machine.{Answers, after, session_answers}
use Rattle.machine.specs.SavedState.{state_with_text, saved_state_of}
use Rattle.machine.proofs.TextLemmas.{text_begins, text_length}
use Rattle.replay.specs.declared.ring.Checkpoint.{Checkpoint}
use Rattle.replay.specs.declared.rerun.TextUse.{TextUse}
use Rattle.replay.specs.declared.rerun.TextUse.TheVariants.{Copy, Move}
use Rattle.replay.specs.declared.ring.Checkpoints.{Checkpoints}
use Rattle.replay.specs.declared.ring.LeftOut.{LeftOut}
use Rattle.replay.specs.Resuming.{AreCheckpointsOf, LeavesCheckpoints}
use Rattle.replay.specs.RunnerView.{AreCheckpoints}
use Rattle.replay.specs.Ring.{Each, IsValid, IsValidFor, PushesIfAbove, SomeStep, checkpoint_at, start_step}
use Rattle.replay.proofs.DueLemmas.{still_top}
use Rattle.replay.proofs.RingLemmas.{Each-weaken, kept_capacity, kept_each, kept_rising, kept_same}

pub new_valid : (f : Answers) (n : ℕ) (st : PartialState) → 1 ≤ n → after f n ≡ Some st → IsValid f (record { step = n; state = saved_state_of st })
new_valid f n st later at = record { later = later; text = st.core.desk.text; fits = refl; state = at }

-- Something else holds for each of the checkpoints.
pub each_now : (P Q : Checkpoint → Type 0) (f : Answers) (old : Checkpoints) (policy : Noting) (left : Option LeftOut) → AreCheckpoints P f old → Each Q old.ring.items
    → AreCheckpoints Q f (record old { notes = record { looks = old.notes.looks; noting = policy }; left_out = left })
each_now P Q f old policy left sound valid =
    record { valid = valid; rising = sound.rising; below = sound.below; noted = sound.noted; spacing_in = sound.spacing_in; seen_in = sound.seen_in }

-- The looks of more steps are noted.
pub noted_on : (f : Answers) (old : Checkpoints) (notes : RunNotes) → AreCheckpointsOf f old → IsFirstLooks f notes.looks
    → (old.notes.looks.seen ≤ notes.looks.seen) × (notes.looks.seen ≤ STEP_LIMIT) → AreCheckpointsOf f (record old { notes = notes })
noted_on f old notes sound first seen = record {
  valid = sound.valid;
  rising = sound.rising;
  below = Each-weaken _ _ old.ring.items (λ d h. omega (arith, h, seen.0)) sound.below;
  noted = first;
  spacing_in = sound.spacing_in;
  seen_in = seen.1;
}

-- A checkpoint was made, or not.
pub pushed_sound : (f : Answers) (old : Checkpoints) (ring : Buffer Checkpoint) (left : Option LeftOut) (newest n : ℕ) (st : PartialState) (r : Result (Unit {0}) AllocError) → AreCheckpointsOf f old → after f n ≡ Some st
    → PushesIfAbove newest old.ring ring (checkpoint_at n st) → (IsErr r → ring ≡ old.ring) → (IsOk r → n ≤ old.notes.looks.seen) → Each (λ c. c.step ≤ newest) old.ring.items
    → AreCheckpointsOf f (record old { ring = ring; left_out = left })
pushed_sound f old ring left newest n st r sound at keeps none noted top = record {
  valid = kept_each newest old.ring (checkpoint_at n st) (IsValid f) ring keeps sound.valid (λ h. new_valid f n st (omega (arith, h)) at);
  rising = kept_rising newest old.ring (checkpoint_at n st) ring keeps sound.rising top;
  below = by_notes r none noted;
  noted = sound.noted;
  spacing_in = sound.spacing_in;
  seen_in = sound.seen_in;
}
  where
    by_notes : (r : Result (Unit {0}) AllocError) → (IsErr r → ring ≡ old.ring) → (IsOk r → n ≤ old.notes.looks.seen) → Each (λ c. c.step ≤ old.notes.looks.seen) ring.items
    by_notes (Ok u) none noted = kept_each newest old.ring (checkpoint_at n st) (λ c. c.step ≤ old.notes.looks.seen) ring keeps sound.below (λ _. noted refl)
    by_notes (Err e) none noted = rw (none refl) sound.below

-- A run continues from step m to step n, and makes a checkpoint there, or not.
pub left_on : (s : Session) (newest m n : ℕ) (first old : Checkpoints) (ring : Buffer Checkpoint) (notes : RunNotes) (left : Option LeftOut) (st : PartialState) (r : Result (Unit {0}) AllocError)
    → LeavesCheckpoints s newest m first old → IsFirstLooks (session_answers s) notes.looks → (old.notes.looks.seen ≤ notes.looks.seen) × (notes.looks.seen ≤ STEP_LIMIT)
    → after (session_answers s) n ≡ Some st → m ≤ n → n ≤ s.limit → PushesIfAbove (max newest m) old.ring ring (checkpoint_at n st) → (IsErr r → ring ≡ old.ring)
    → (IsOk r → n ≤ notes.looks.seen) → LeavesCheckpoints s newest n first (record old { ring = ring; notes = notes; left_out = left })
left_on s newest m n first old ring notes left st r leaves known seen at low within keeps none noted = record {
  sound = pushed_sound (session_answers s) (record old { notes = notes }) ring left (max newest m) n st r (noted_on (session_answers s) old notes leaves.sound known seen) at keeps none noted leaves.upto;
  upto = still_top newest m old.ring ring (checkpoint_at n st) low keeps leaves.upto;
  same = λ past. kept_same _ old.ring ring (checkpoint_at n st) keeps (omega (arith, past, within)) ∙ leaves.same past;
  capacity = kept_capacity _ old.ring (checkpoint_at n st) ring keeps ∙ leaves.capacity;
  spacing = leaves.spacing;
}

pub stands_valid : (f : Answers) (text : List ℕ) (xs : List Checkpoint) → Each (IsValidFor f text) xs → Each (IsValid f) xs
stands_valid f text [] h = tt
stands_valid f text (x ∷ xs) h =
    (record { later = h.0.later; text = take x.state.length text; fits = length-take-le x.state.length text h.0.fits; state = h.0.state }, stands_valid f text xs h.1)

-- A valid checkpoint is the state after its step also with the text of every later state.
pub later_stands : (f : Answers) (n : ℕ) (st : PartialState) (c : Checkpoint) → after f n ≡ Some st → c.step ≤ n → IsValid f c → IsValidFor f st.core.desk.text c
later_stands f n st c at low v =
    let begins : take (length v.text) st.core.desk.text ≡ v.text = text_begins f c.step n (state_with_text c.state v.text) st low v.state at in
    let long : length v.text ≤ length st.core.desk.text = text_length f c.step n (state_with_text c.state v.text) st low v.state at in
    let same : take c.state.length st.core.desk.text ≡ v.text = ap (λ k. take k st.core.desk.text) (sym v.fits) ∙ begins in
    record {
      later = v.later;
      fits = let e = v.fits in omega arith;
      state = v.state ∙ ap (λ (text : List ℕ). Some (state_with_text c.state text)) (sym same);
    }

pub all_later_stand : (f : Answers) (n : ℕ) (st : PartialState) (xs : List Checkpoint) → after f n ≡ Some st → Each (λ c. c.step ≤ n) xs → Each (IsValid f) xs → Each (IsValidFor f st.core.desk.text) xs
all_later_stand f n st [] at low v = tt
all_later_stand f n st (x ∷ xs) at low v = (later_stands f n st x at low.0 v.0, all_later_stand f n st xs at low.1 v.1)

-- The text of a state before a checkpoint is a prefix of the checkpoint's text.
pub earlier_text : (f : Answers) (n : ℕ) (st : PartialState) (text : List ℕ) (c : Checkpoint) → after f n ≡ Some st → n ≤ c.step → IsValidFor f text c
    → (take (length st.core.desk.text) text ≡ st.core.desk.text) × (length st.core.desk.text ≤ length text)
earlier_text f n st text c at low s =
    let whole_text : List ℕ = take c.state.length text in
    let begins : take (length st.core.desk.text) whole_text ≡ st.core.desk.text = text_begins f n c.step st (state_with_text c.state whole_text) low at s.state in
    let long : length st.core.desk.text ≤ length whole_text = text_length f n c.step st (state_with_text c.state whole_text) low at s.state in
    let short : length whole_text ≡ c.state.length = length-take-le c.state.length text s.fits in
    let fits = s.fits in
    (sym (take-take (length st.core.desk.text) c.state.length text (omega arith)) ∙ begins, omega arith)

-- ---- what a run leaves of the text

some_there : (P : Checkpoint → Type 0) (xs : List Checkpoint) (n : ℕ) → SomeStep xs n → Each P xs → (c : Checkpoint) × (c.step ≡ n) × P c
some_there P [] n h e = absurd h
some_there P (x ∷ xs) n (inl s) e = (x, s, e.0)
some_there P (x ∷ xs) n (inr h) e = some_there P xs n h e.1

some_within : (limit : ℕ) (xs : List Checkpoint) (n : ℕ) → SomeStep xs n → n ≤ limit → n ≤ start_step limit xs
some_within limit [] n h low = absurd h
some_within limit (x ∷ xs) n (inl s) low = grind (arith, nat_tests)
some_within limit (x ∷ xs) n (inr h) low = let r = some_within limit xs n h low in grind (arith, nat_tests)

-- The checkpoints agree with the text, and the text of the last state is a prefix of it.
pub record Left (f : Answers) (st : PartialState) (text : List ℕ) (ring : List Checkpoint) : Type 0 where
  pub stands : Each (IsValidFor f text) ring
  pub begins : take (length st.core.desk.text) text ≡ st.core.desk.text
  pub fits : length st.core.desk.text ≤ length text

module _ (f : Answers) (limit newest from l : ℕ) (st : PartialState) (old new : Buffer Checkpoint) (first begun last : List ℕ) where
  -- If a kept step is past the limit, its text stays.
  left_before : Each (IsValidFor f first) old.items → (newest ≡ 0) ⊎ SomeStep old.items newest → (n : ℕ) → after f n ≡ Some st → n ≤ limit → limit < newest → Left f st first old.items
  left_before stands (inl e) n at low past = absurd (omega arith)
  left_before stands (inr h) n at low past =
      let (c, step, stand) = some_there (IsValidFor f first) old.items newest h stands in
      let (begins, fits) = earlier_text f n st first c at (omega arith) stand in
      record { stands = stands; begins = begins; fits = fits }

  newest_within : (newest ≡ 0) ⊎ SomeStep old.items newest → newest ≤ limit → newest ≤ start_step limit old.items
  newest_within (inl e) low = omega arith
  newest_within (inr h) low = some_within limit old.items newest h low

  pub left : Each (IsValidFor f first) old.items → (newest ≡ 0) ⊎ SomeStep old.items newest → l ≡ limit → from ≡ start_step limit old.items
      → (n : ℕ) → after f n ≡ Some st → (from ≤ n) × (n ≤ limit) → Each (λ c. c.step ≤ max newest n) new.items
      → (limit < newest → new ≡ old) → Each (IsValid f) new.items
      → (chosen : TextUse) → chosen ≡ cond (nat_lt l newest) Copy Move
      → (chosen ≡ Copy → begun ≡ first) → (chosen ≡ Move → last ≡ st.core.desk.text) → (chosen ≡ Copy → last ≡ begun)
      → Left f st last new.items
  left stands there is start n at within top same valid chosen is_chosen needed own stays = by_need (nat_lt l newest) refl is_chosen
    where
      by_need : (b : Bool) → nat_lt l newest ≡ b → chosen ≡ cond b Copy Move → Left f st last new.items
      by_need true e copied =
          let past : limit < newest = grind (arith, nat_tests) in
          rw (stays copied ∙ needed copied, same past) (left_before stands there n at within.1 past)
      by_need false e moved =
          let low : newest ≤ limit = grind (arith, nat_tests) in
          let reached : newest ≤ from = omega (arith, newest_within there low) in
          rw (own moved) (record {
            stands = all_later_stand f n st new.items at (Each-weaken _ _ new.items (λ d h. omega (arith, h, reached, within.0)) top) valid;
            begins = take_all (length st.core.desk.text) st.core.desk.text (omega arith);
            fits = omega arith;
          })
