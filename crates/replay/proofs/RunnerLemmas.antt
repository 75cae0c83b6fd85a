-- What always holds for the parts of a runner, through edits and drops.
use Rattle.std.proofs.Common.{◌≡◌, ◌==◌, ◌||◌, Bool, true, false, cond, nat_lt, ℕ, zero, suc, ◌-◌, ◌<◌, ◌≤◌, List, [], ◌∷◌, length, map, Option, Some, None, refl, ap, arith}
use Rattle.std.specs.Prelude.{slice_get}
use Rattle.std.proofs.lemmas.Bool.{eqb-false, ltb-false}
use Rattle.circular_buffer.specs.Buffer.{Buffer, buffer, keep_last}
use Rattle.machine.specs.Inputs.{Session}
use Rattle.first_looks.specs.declared.question.Question.{Question}
use Rattle.machine.specs.Machine.{Answers, session_answers}
use Rattle.replay.specs.declared.ring.Checkpoint.{Checkpoint as KeptCheckpoint}
use Rattle.replay.specs.declared.ring.Checkpoints.{Checkpoints}
use Rattle.first_looks.specs.FirstLooks.{step_of, step_below}
use Rattle.replay.specs.declared.options.Options.{Options}
use Rattle.replay.specs.Options.{refusal_of}
use Rattle.replay.specs.Ring.{Each, IsValidFor, DropsPast}
use Rattle.replay.specs.Touch.{IsNotedTouch}
use Rattle.replay.specs.RunnerView.{IsSoundRunner, IsStateAfterStep, KeepsUntouched, checkpoint_with_text}
use Rattle.replay.proofs.RingLemmas.{Rising-left, Rising-drop, Each-left, Each-keep_last}
use Rattle.machine.proofs.FirstLemmas.{IsEmpty, nothing_noted}
use Rattle.replay.proofs.TouchLemmas.{untouched, edited_known, keeps_untouched, still_stand}

-- Each checkpoint is the state of the session after its step.
pub all_stand : (f : Answers) (text : List ℕ) (xs : List KeptCheckpoint) → Each (IsValidFor f text) xs → Each (IsStateAfterStep f) (map (checkpoint_with_text text) xs)
all_stand f text [] h = tt
all_stand f text (x ∷ xs) h = (record { later = h.0.later; state = h.0.state }, all_stand f text xs h.1)

-- Options that are not refused have a spacing within its range.
pub spacing_within : (o : Options) → refusal_of o ≡ None → (0 < o.spacing) × (o.spacing ≤ 1000000000)
spacing_within o h =
    let tests = by_tests (o.spacing == 0) (nat_lt 1000000000 o.spacing) (o.slots == 0 || nat_lt 4096 o.slots) h in
    let some = eqb-false o.spacing 0 tests.0 in
    let most = ltb-false 1000000000 o.spacing tests.1 in
    (omega (arith, some), most)
  where
    by_tests : (a b c : Bool) → cond {A = Option ℕ} (a || b) (Some 1) (cond c (Some 2) None) ≡ None → (a ≡ false) × (b ≡ false)
    by_tests true b c h = cc
    by_tests false true c h = cc
    by_tests false false c h = (refl, refl)

pub sound_start : (s : Session) (text : List ℕ) (made : Checkpoints) → made.ring.items ≡ [] → IsEmpty made.notes.looks → (0 < made.spacing) × (made.spacing ≤ 1000000000) → IsSoundRunner s text made
sound_start s text made e k within = record {
  valid = rw e tt;
  rising = rw e tt;
  below = rw e tt;
  noted = nothing_noted (session_answers s) made.notes.looks k;
  spacing_in = within;
  seen_in = let z : made.notes.looks.seen ≡ 0 = k.seen in omega (arith, z);
}

-- An edit of the session, with the checkpoints and the looks cut at the noted touch.
pub sound_edit : (s s' : Session) (text : List ℕ) (t : ℕ) (old new : Checkpoints) → IsSoundRunner s text old
    → IsNotedTouch (session_answers s) (session_answers s') old.notes.looks t → DropsPast t old.ring.items new.ring.items
    → ((q : Question) → step_of new.notes.looks q ≡ step_below t (step_of old.notes.looks q)) → new.notes.looks.seen ≡ t → new.spacing ≡ old.spacing → IsSoundRunner s' text new
sound_edit s s' text t old new sound touch kept steps seen spacing = record {
  valid = still_stand (session_answers s) (session_answers s') text t new.ring.items (untouched (session_answers s) (session_answers s') old.notes.looks t sound.noted touch) kept.left (Each-left _ new.ring.items kept.gone (rw kept.parts at sound.valid));
  rising = Rising-left new.ring.items kept.gone (rw kept.parts at sound.rising);
  below = rw seen kept.left;
  noted = edited_known (session_answers s) (session_answers s') old.notes.looks new.notes.looks t sound.noted touch steps seen;
  spacing_in = rw spacing sound.spacing_in;
  seen_in = let w = touch.within in let l = sound.seen_in in omega (arith, seen, w, l);
}

pub keeps_edit : (s s' : Session) (text : List ℕ) (t : ℕ) (old : Checkpoints) (ring : Buffer KeptCheckpoint) → IsSoundRunner s text old
    → IsNotedTouch (session_answers s) (session_answers s') old.notes.looks t → DropsPast t old.ring.items ring.items → KeepsUntouched (session_answers s) (session_answers s') (map (checkpoint_with_text text) old.ring.items) (map (checkpoint_with_text text) ring.items)
keeps_edit s s' text t old ring sound touch kept =
    keeps_untouched (session_answers s) (session_answers s') text old.notes.looks t old.ring.items ring.items kept.gone sound.noted touch sound.below kept.parts kept.left kept.past

-- ---- the newest checkpoints alone

pub sound_last : (s : Session) (text : List ℕ) (n : ℕ) (old : Checkpoints) (ring : Buffer KeptCheckpoint) (slots : ℕ) → IsSoundRunner s text old → ring ≡ buffer (keep_last n old.ring.items) slots
    → IsSoundRunner s text (record old { ring = ring })
sound_last s text n old ring slots sound e = record {
  valid = rw e (Each-keep_last _ n old.ring.items sound.valid);
  rising = rw e (Rising-drop (length old.ring.items - n) old.ring.items sound.rising);
  below = rw e (Each-keep_last _ n old.ring.items sound.below);
  noted = sound.noted;
  spacing_in = sound.spacing_in;
  seen_in = sound.seen_in;
}

-- The steps of the checkpoints as contracts see them.
pub seen_steps : (text : List ℕ) (xs : List KeptCheckpoint) → map (λ c. c.step) (map (checkpoint_with_text text) xs) ≡ map (λ c. c.step) xs
seen_steps text [] = refl
seen_steps text (x ∷ xs) = ap (λ (l : List ℕ). x.step ∷ l) (seen_steps text xs)

pub get_step : (text : List ℕ) (xs : List KeptCheckpoint) (i : ℕ) (c : KeptCheckpoint) → slice_get xs i ≡ Some c → slice_get (map (λ c. c.step) (map (checkpoint_with_text text) xs)) i ≡ Some c.step
get_step text [] i c e = cc
get_step text (x ∷ xs) zero c e = let same : x ≡ c = cc in ap (λ (d : KeptCheckpoint). Some d.step) same
get_step text (x ∷ xs) (suc i) c e = get_step text xs i c e

pub get_none : (text : List ℕ) (xs : List KeptCheckpoint) (i : ℕ) → slice_get xs i ≡ None → slice_get (map (λ c. c.step) (map (checkpoint_with_text text) xs)) i ≡ None
get_none text [] i e = refl
get_none text (x ∷ xs) zero e = cc
get_none text (x ∷ xs) (suc i) e = get_none text xs i e
