-- An edit keeps the checkpoints up to its touch.
use Rattle.std.proofs.Common.{◌≡◌, ℕ, ◌<◌, ◌≤◌, List, [], ◌∷◌, ◌++◌, Some, ◌⊎◌, inl, inr, ap, sym, ◌∙◌, arith, map}
use Rattle.std.proofs.lemmas.List.{map-append}
use Rattle.first_looks.specs.declared.question.Question.{Question}
use Rattle.replay.specs.declared.ring.Checkpoint.{Checkpoint}
use Rattle.machine.specs.Tree.{AgreeOn}
use Rattle.machine.specs.Machine.{Answers, looks}
use Rattle.first_looks.specs.FirstLooks.{FirstLooksView, step_of, step_below}
use Rattle.machine.specs.FirstLooks.{IsFirstLooks}
use Rattle.replay.specs.Ring.{Each, IsValidFor}
use Rattle.replay.specs.RunnerView.{KeepsUntouched, checkpoint_with_text}
use Rattle.replay.specs.Touch.{Untouched, IsNotedTouch}
use Rattle.replay.proofs.RingLemmas.{Each-weaken, Each-right}
use Rattle.machine.proofs.FirstLemmas.{erased_first, same_first, same_after}
use Rattle.machine.proofs.AskedLemmas.{agree_each, agree_at, noted_by, asked_there}

pub untouched : (f g : Answers) (k : FirstLooksView) (t : ℕ) → IsFirstLooks f k → IsNotedTouch f g k t → Untouched f g t
untouched f g k t known touch i below =
    agree_each f g (looks f i) (λ q asked.
    let (m, at, low) = noted_by f q k.seen i (omega (arith, touch.within)) asked in
    touch.below q m (known.entry q ∙ at) (omega arith))

-- What is left of the table is the table of the edited session.
pub edited_known : (f g : Answers) (old new : FirstLooksView) (t : ℕ) → IsFirstLooks f old → IsNotedTouch f g old t
    → ((q : Question) → step_of new q ≡ step_below t (step_of old q)) → new.seen ≡ t → IsFirstLooks g new
edited_known f g old new t known touch steps seen =
    record { entry = λ q. steps q ∙ rw (known.entry q, seen) (erased_first f q t old.seen touch.within ∙ sym (same_first f g q t (untouched f g old t known touch))) }

-- If the noted touch is below `seen`, it is the touch.
pub touch_here : (f g : Answers) (k : FirstLooksView) (t : ℕ) → IsFirstLooks f k → IsNotedTouch f g k t → t < k.seen → AgreeOn (looks f t) f g → ⊥
touch_here f g k t known touch below agree = differs touch.here
  where
    differs : (t ≡ k.seen) ⊎ ((q : Question) × (step_of k q ≡ Some t) × (f q ≡ g q → ⊥)) → ⊥
    differs (inl e) = omega arith
    differs (inr w) = w.2 (agree_at f g (looks f t) w.0 (asked_there f w.0 k.seen t (sym (known.entry w.0) ∙ w.1)) agree)

gone_touched : (f g : Answers) (k : FirstLooksView) (t : ℕ) (gone : List Checkpoint) → IsFirstLooks f k → IsNotedTouch f g k t
    → Each (λ c. c.step ≤ k.seen) gone → Each (λ c. t < c.step) gone → Each (λ c. Untouched f g c.step → ⊥) gone
gone_touched f g k t [] known touch low past = tt
gone_touched f g k t (x ∷ xs) known touch low past =
    (λ same. touch_here f g k t known touch (omega (arith, low.0, past.0)) (same t past.0), gone_touched f g k t xs known touch low.1 past.1)

pub each_map : {X Y : Type 0} (h : X → Y) (P : Y → Type 0) (xs : List X) → Each (λ x. P (h x)) xs → Each P (map h xs)
each_map h P [] e = tt
each_map h P (x ∷ xs) e = (e.0, each_map h P xs e.1)

-- The checkpoints up to the noted touch are exactly the checkpoints up to the touch.
pub keeps_untouched : (f g : Answers) (text : List ℕ) (k : FirstLooksView) (t : ℕ) (old new gone : List Checkpoint) → IsFirstLooks f k → IsNotedTouch f g k t
    → Each (λ c. c.step ≤ k.seen) old → old ≡ new ++ gone → Each (λ c. c.step ≤ t) new → Each (λ c. t < c.step) gone
    → KeepsUntouched f g (map (checkpoint_with_text text) old) (map (checkpoint_with_text text) new)
keeps_untouched f g text k t old new gone known touch low parts here past = record {
  gone = map (checkpoint_with_text text) gone;
  parts = ap (map (checkpoint_with_text text)) parts ∙ map-append (checkpoint_with_text text) new gone;
  untouched = each_map (checkpoint_with_text text) (λ c. Untouched f g c.step) new (Each-weaken _ _ new (λ c h. λ i b. untouched f g k t known touch i (omega (arith, h))) here);
  touched = each_map (checkpoint_with_text text) (λ c. Untouched f g c.step → ⊥) gone (gone_touched f g k t gone known touch (Each-right _ new gone (rw parts at low)) past);
}

-- The checkpoints that are left are valid for the edited session.
pub still_stand : (f g : Answers) (text : List ℕ) (t : ℕ) (xs : List Checkpoint) → Untouched f g t → Each (λ c. c.step ≤ t) xs → Each (IsValidFor f text) xs → Each (IsValidFor g text) xs
still_stand f g text t [] same low valid = tt
still_stand f g text t (x ∷ xs) same low valid =
    (record { later = valid.0.later; fits = valid.0.fits; state = same_after f g x.step (λ i b. same i (omega (arith, low.0))) ∙ valid.0.state }, still_stand f g text t xs same low.1 valid.1)
