-- The touch of an edit, question by question: the first step among the changed questions done so far.
use Rattle.std.proofs.Common.{◌≡◌, ℕ, ◌<◌, ◌≤◌, Bool, true, false, cond, Option, Some, None, ◌⊎◌, inl, inr, refl, sym, ◌∙◌, subst, arith}
use Rattle.std.proofs.lemmas.Bool.{lt-ltb, le-ltb, cases_lt}
use Rattle.first_looks.specs.declared.question.Question.{Question}
use Rattle.machine.specs.Machine.{Answers}
use Rattle.first_looks.specs.FirstLooks.{FirstLooksView, step_of}
use Rattle.first_looks.specs.FileSteps.{lesser_step}
use Rattle.replay.specs.Touch.{IsNotedTouch}

-- The noted touch, for the questions done so far.
pub record IsLeast (IsDone : Question → Type 0) (f g : Answers) (k : FirstLooksView) (t : ℕ) : Type 0 where
  pub within : t ≤ k.seen
  pub below : (q : Question) (m : ℕ) → IsDone q → step_of k q ≡ Some m → m < t → f q ≡ g q
  pub here : (t ≡ k.seen) ⊎ ((q : Question) × (step_of k q ≡ Some t) × (f q ≡ g q → ⊥))

pub least_of_none : (IsDone : Question → Type 0) (f g : Answers) (k : FirstLooksView) → ((q : Question) → IsDone q → ⊥) → IsLeast IsDone f g k k.seen
least_of_none IsDone f g k none = record { within = omega arith; below = λ q m done there low. absurd (none q done); here = inl refl }

-- If all questions with another answer are done, it is the noted touch.
pub least_of_all : (IsDone : Question → Type 0) (f g : Answers) (k : FirstLooksView) (t : ℕ) → IsLeast IsDone f g k t → ((q : Question) → IsDone q ⊎ (f q ≡ g q)) → IsNotedTouch f g k t
least_of_all IsDone f g k t least all = record {
  within = least.within;
  below = λ q m there low. elim (all q) [ inl done ↦ least.below q m done there low | inr same ↦ same ];
  here = least.here;
}

module _ (IsDone IsDoneThen : Question → Type 0) (f g : Answers) (k : FirstLooksView) (c : Question) (split : (q : Question) → IsDoneThen q → IsDone q ⊎ (q ≡ c)) (t : ℕ) (least : IsLeast IsDone f g k t) where
  -- One more question is done, with the same answer.
  pub more_same : f c ≡ g c → IsLeast IsDoneThen f g k t
  more_same same = record {
    within = least.within;
    below = λ q m done there low. elim (split q done) [
      | inl before ↦ least.below q m before there low
      | inr e ↦ let P : Question → Type 0 = λ y. f y ≡ g y in subst P (sym e) same
    ];
    here = least.here;
  }

  -- One more question is done, with another answer.
  pub more_changed : (f c ≡ g c → ⊥) → (o : Option ℕ) → step_of k c ≡ o → ((m : ℕ) → o ≡ Some m → m < k.seen) → IsLeast IsDoneThen f g k (lesser_step o t)
  more_changed differs None at short = record {
    within = least.within;
    below = λ q m done there low. elim (split q done) [
      | inl before ↦ least.below q m before there low
      | inr e ↦ let none : None ≡ Some m = sym at ∙ subst (λ (y : Question). step_of k y ≡ Some m) e there in absurd (cc)
    ];
    here = least.here;
  }
  more_changed differs (Some n) at short = elim (cases_lt n t) [
    | inr high ↦ rw (le-ltb n t high) (record {
      within = least.within;
      below = λ q m done there low. elim (split q done) [
        | inl before ↦ least.below q m before there low
        | inr e ↦ let same : Some n ≡ Some m = sym at ∙ subst (λ (y : Question). step_of k y ≡ Some m) e there in let number : n ≡ m = cc in absurd (omega arith)
      ];
      here = least.here;
    })
    | inl under ↦ rw (lt-ltb n t under) (record {
      within = let w = least.within in omega arith;
      below = λ q m done there low. elim (split q done) [
        | inl before ↦ least.below q m before there (omega arith)
        | inr e ↦ let same : Some n ≡ Some m = sym at ∙ subst (λ (y : Question). step_of k y ≡ Some m) e there in let number : n ≡ m = cc in absurd (omega arith)
      ];
      here = inr (c, at, differs);
    })
  ]

  pub least_more : ((m : ℕ) → step_of k c ≡ Some m → m < k.seen) → (b : Bool) → (b ≡ true → f c ≡ g c) → (b ≡ false → f c ≡ g c → ⊥) → IsLeast IsDoneThen f g k (cond b t (lesser_step (step_of k c) t))
  least_more short true same differs = more_same (same refl)
  least_more short false same differs = more_changed (differs refl) (step_of k c) refl short
