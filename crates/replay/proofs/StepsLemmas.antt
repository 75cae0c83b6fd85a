-- The steps of checkpoints, without their states.
use Rattle.std.proofs.Common.{◌≡◌, ℕ, ◌-◌, ◌<◌, List, [], ◌∷◌, ◌++◌, length, max, map, drop, Option, inl, inr, refl, ap, sym, ◌∙◌, if◌then◌else◌, nat_le}
use Rattle.std.proofs.lemmas.List.{map-append, length-map, drop-map}
use Rattle.std.proofs.lemmas.Option.{IfSome_then}
use Rattle.circular_buffer.specs.Buffer.{keep_last}
use Rattle.replay.specs.declared.ring.Checkpoint.{Checkpoint as KeptCheckpoint}
use Rattle.replay.specs.Ring.{Rising, RisingBy, IsDue, IsDueBy, Each, Adds, AddsBy, AddsEach, AddsEachBy, SomeBy, SomeStep, steps, start_by, start_step}
use Rattle.replay.specs.RunnerView.{Checkpoint, checkpoint_with_text}
use Rattle.replay.proofs.RingLemmas.{Each-weaken}
use Rattle.replay.proofs.TouchLemmas.{each_map}
use Rattle.replay.proofs.RunnerLemmas.{seen_steps}

rising_steps : (xs : List KeptCheckpoint) → Rising xs → RisingBy (λ k. k) (steps xs)
rising_steps [] r = tt
rising_steps (x ∷ xs) r = (each_map (λ c. c.step) (λ j. x.step < j) xs r.0, rising_steps xs r.1)

last_steps : (n : ℕ) (xs : List KeptCheckpoint) → steps (keep_last n xs) ≡ keep_last n (steps xs)
last_steps n xs = sym (drop-map (λ (c : KeptCheckpoint). c.step) (length xs - n) xs) ∙ ap (λ l. drop (l - n) (steps xs)) (sym (length-map xs (λ (c : KeptCheckpoint). c.step)))

each_back : {X Y : Type 0} (h : X → Y) (P : Y → Type 0) (xs : List X) → Each P (map h xs) → Each (λ x. P (h x)) xs
each_back h P [] e = tt
each_back h P (x ∷ xs) e = (e.0, each_back h P xs e.1)

some_steps : (xs : List KeptCheckpoint) (n : ℕ) → SomeStep xs n → SomeBy (λ k. k) (steps xs) n
some_steps [] n h = h
some_steps (x ∷ xs) n (inl e) = inl e
some_steps (x ∷ xs) n (inr h) = inr (some_steps xs n h)

adds_steps : (old new : List KeptCheckpoint) (slots from upto spacing : ℕ) (left : Option ℕ) → Adds old new slots from upto upto spacing left → AddsBy (λ k. k) (steps old) (steps new) slots from upto upto spacing left
adds_steps old new slots from upto spacing left a = record {
  made = steps a.made;
  kept = ap (λ (xs : List KeptCheckpoint). steps xs) a.kept ∙ last_steps slots (old ++ a.made) ∙ ap (λ (l : List ℕ). keep_last slots l) (map-append (λ (c : KeptCheckpoint). c.step) old a.made);
  due = each_map (λ c. c.step) (IsDueBy (λ k. k) (steps old) from upto upto spacing) a.made (Each-weaken _ _ a.made (λ c h. due_step c.step h) a.due);
  rising = rising_steps a.made a.rising;
  left = IfSome_then left a.left due_step;
}
  where
    due_step : (k : ℕ) → IsDue old from upto upto spacing k → IsDueBy (λ k. k) (steps old) from upto upto spacing k
    due_step k h = record { reached = h.reached; above = each_map (λ d. d.step) (λ j. j < k) old h.above; marked = h.marked }

pub rerun_begins : (text : List ℕ) (xs : List KeptCheckpoint) (limit : ℕ) → start_by (λ (c : Checkpoint). c.step) limit (map (checkpoint_with_text text) xs) ≡ start_step limit xs
rerun_begins text [] limit = refl
rerun_begins text (x ∷ xs) limit = ap (λ n. max (if nat_le x.step limit then x.step else 0) n) (rerun_begins text xs limit)

pub reran : (text text' : List ℕ) (old new : List KeptCheckpoint) (slots from upto spacing : ℕ) (left : Option ℕ) → Rising new → Adds old new slots from upto upto spacing left
    → AddsBy (λ k. k) (map (λ c. c.step) (map (checkpoint_with_text text) old)) (map (λ c. c.step) (map (checkpoint_with_text text') new)) slots from upto upto spacing left
    × RisingBy (λ k. k) (map (λ c. c.step) (map (checkpoint_with_text text') new))
reran text text' old new slots from upto spacing left r a =
    rw (seen_steps text old, seen_steps text' new) (adds_steps old new slots from upto spacing left a, rising_steps new r)

pub reran_each : (text text' : List ℕ) (old new : List KeptCheckpoint) (slots from upto spacing : ℕ) (left : Option ℕ) → Rising new → AddsEach old new slots from upto upto spacing left
    → AddsEachBy (λ k. k) (map (λ c. c.step) (map (checkpoint_with_text text) old)) (map (λ c. c.step) (map (checkpoint_with_text text') new)) slots from upto upto spacing left
    × RisingBy (λ k. k) (map (λ c. c.step) (map (checkpoint_with_text text') new))
unfolding adds_steps
reran_each text text' old new slots from upto spacing left r a =
    rw (seen_steps text old, seen_steps text' new) (
      record {
        adds = adds_steps old new slots from upto spacing left a.adds;
        complete = λ k h past. some_steps a.adds.made k (a.complete k (record { reached = h.reached; above = each_back (λ d. d.step) (λ j. j < k) old h.above; marked = h.marked }) past);
      },
      rising_steps new r,
    )
