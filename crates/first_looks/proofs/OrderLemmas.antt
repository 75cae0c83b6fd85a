-- Looks in the order of their steps.
use Rattle.std.proofs.Common.{◌≡◌, ◌≢◌, ℕ, suc, ◌-◌, ◌<◌, ◌≤◌, true, false, List, [], ◌∷◌, ◌++◌, length, take, Option, Some, None, ◌⊎◌, inl, inr, refl, ap, sym, ◌∙◌, subst, arith, eqb, eqb-true, eq-eqb, get_or-set_other, get_or-set_same}
use Rattle.std.specs.Prelude.{◌==◌, slice_get, slice_set, if◌then◌else◌}
use Rattle.std.proofs.lemmas.Bool.{cases_lt, cases_Bool}
use Rattle.std.proofs.lemmas.Bool.Decides.{nat_tests}
use Rattle.first_looks.specs.declared.first_steps.Look.{Look}
use Rattle.first_looks.specs.Noting.{step_below}
use Rattle.first_looks.specs.FirstSteps.{IsInOrder, HasLook, Rise, latest_of, step_at, step_or_none}

-- ---- one more look, or one less

has_more : (xs : List Look) (c : Look) (index step : ℕ) → HasLook xs index step → HasLook (xs ++ c ∷ []) index step
has_more [] c index step h = absurd h
has_more (x ∷ xs) c index step (inl e) = inl e
has_more (x ∷ xs) c index step (inr h) = inr (has_more xs c index step h)

has_last : (xs : List Look) (c : Look) → HasLook (xs ++ c ∷ []) c.index c.step
has_last [] c = inl (refl, refl)
has_last (x ∷ xs) c = inr (has_last xs c)

has_left : (xs : List Look) (c : Look) (index step : ℕ) → HasLook (xs ++ c ∷ []) index step → HasLook xs index step ⊎ ((c.index ≡ index) × (c.step ≡ step))
has_left [] c index step (inl e) = inr e
has_left [] c index step (inr h) = absurd h
has_left (x ∷ xs) c index step (inl e) = inl (inl e)
has_left (x ∷ xs) c index step (inr h) = elim (has_left xs c index step h) [ inl g ↦ inl (inr g) | inr e ↦ inr e ]

has_below : (xs : List Look) (index step : ℕ) → HasLook xs index step → step ≤ latest_of xs
has_below [] index step h = absurd h
has_below (x ∷ xs) index step (inl e) = omega (arith, e.1)
has_below (x ∷ xs) index step (inr h) = let r = has_below xs index step h in omega arith

pub latest_more : (xs : List Look) (c : Look) (n : ℕ) → latest_of xs ≤ n → c.step ≤ n → latest_of (xs ++ c ∷ []) ≤ n
latest_more [] c n h k = omega arith
latest_more (x ∷ xs) c n h k = let r = latest_more xs c n (omega arith) k in omega arith

pub latest_less : (xs : List Look) (c : Look) → latest_of xs ≤ latest_of (xs ++ c ∷ [])
latest_less [] c = omega arith
latest_less (x ∷ xs) c = let r = latest_less xs c in omega arith

rise_more : (xs : List Look) (c : Look) → Rise xs → latest_of xs ≤ c.step → Rise (xs ++ c ∷ [])
rise_more [] c r h = tt
rise_more (x ∷ []) c r h = (omega arith, tt)
rise_more (x ∷ y ∷ ys) c r h = (r.0, rise_more (y ∷ ys) c r.1 (omega arith))

rise_less : (xs : List Look) (c : Look) → Rise (xs ++ c ∷ []) → Rise xs × (latest_of xs ≤ c.step)
rise_less [] c r = (tt, omega arith)
rise_less (x ∷ []) c r = (tt, let h = r.0 in omega arith)
rise_less (x ∷ y ∷ ys) c r =
    let (less, below) = rise_less (y ∷ ys) c r.1 in
    let h : x.step ≤ y.step = r.0 in
    ((h, less), omega arith)

-- A list ends in its last item.
pub taken_last : {X : Type 0} (xs : List X) (c : X) → slice_get xs (length xs - 1) ≡ Some c → xs ≡ take (length xs - 1) xs ++ c ∷ []
taken_last [] c e = cc
taken_last (x ∷ []) c e = let same : x ≡ c = cc in rw same refl
taken_last (x ∷ (y ∷ ys)) c e =
    let two : suc (suc (length ys)) - 1 ≡ suc (length ys) = omega arith in
    let one : suc (length ys) - 1 ≡ length ys = omega arith in
    let there : slice_get (y ∷ ys) (length ys) ≡ Some c = rw two at e in
    let rest = taken_last (y ∷ ys) c (rw one there) in
    rw two (ap (λ zs. x ∷ zs) (rest ∙ rw one refl))

-- The last look is the latest.
pub last_latest : (xs : List Look) (c : Look) → Rise xs → slice_get xs (length xs - 1) ≡ Some c → latest_of xs ≤ c.step
last_latest xs c r last =
    let split : xs ≡ take (length xs - 1) xs ++ c ∷ [] = taken_last xs c last in
    let below = (rise_less (take (length xs - 1) xs) c (subst Rise split r)).1 in
    subst (λ ys. latest_of ys ≤ c.step) (sym split) (latest_more (take (length xs - 1) xs) c c.step below (omega arith))

-- ---- the steps and their looks

pub set_here : (steps : List ℕ) (index step : ℕ) → index < length steps → step < 4294967295 → step_at (slice_set steps index step) index ≡ Some step
set_here steps index step inside held =
    let there = get_or-set_same steps index step 4294967295 inside in
    let no : eqb step 4294967295 ≡ false = grind (arith, nat_tests) in
    rw (there, no) refl

pub set_other : (steps : List ℕ) (index k step : ℕ) → k ≢ index → step_at (slice_set steps index step) k ≡ step_at steps k
set_other steps index k step ne = ap step_or_none (get_or-set_other steps index k step 4294967295 ne)

pub in_order_same : (steps steps' : List ℕ) (looks : List Look) → IsInOrder steps looks → ((k : ℕ) → step_at steps' k ≡ step_at steps k) → IsInOrder steps' looks
in_order_same steps steps' looks order same = record { noted = λ k m e. order.noted k m (sym (same k) ∙ e); rise = order.rise }

pub in_order_more : (steps steps' : List ℕ) (looks : List Look) (c : Look) → IsInOrder steps looks → latest_of looks ≤ c.step
    → step_at steps' c.index ≡ Some c.step → ((k : ℕ) → k ≢ c.index → step_at steps' k ≡ step_at steps k) → IsInOrder steps' (looks ++ c ∷ [])
in_order_more steps steps' looks c order below here others = record { noted = noted; rise = rise_more looks c order.rise below }
  where
    noted : (k m : ℕ) → step_at steps' k ≡ Some m → HasLook (looks ++ c ∷ []) k m
    noted k m e = elim (cases_Bool (k == c.index)) [
      | inl same ↦
          let index : k ≡ c.index = eqb-true k c.index same in
          let both : Some c.step ≡ Some m = sym here ∙ ap (step_at steps') (sym index) ∙ e in
          let step : c.step ≡ m = cc in
          subst (λ j. HasLook (looks ++ c ∷ []) j m) (sym index) (subst (λ j. HasLook (looks ++ c ∷ []) c.index j) step (has_last looks c))
      | inr other ↦ has_more looks c k m (order.noted k m (sym (others k (λ same. let yes = eq-eqb k c.index same in let both : false ≡ true = sym other ∙ yes in cc)) ∙ e))
    ]

-- What is left is below.
pub kept_below : (from : ℕ) (o : Option ℕ) (m : ℕ) → step_below from o ≡ Some m → (o ≡ Some m) × (m < from)
kept_below from None m e = absurd (cc)
kept_below from (Some n) m e = elim (cases_lt n from) [
  | inl low ↦ grind (arith, nat_tests)
  | inr high ↦ absurd (grind (arith, nat_tests))
]

-- The last look is removed, and its index erased.
pub in_order_less : (steps steps' : List ℕ) (looks : List Look) (c : Look) (from : ℕ) → IsInOrder steps (looks ++ c ∷ []) → from ≤ c.step
    → ((k : ℕ) → step_at steps' k ≡ (if k == c.index then step_below from (step_at steps k) else step_at steps k)) → IsInOrder steps' looks
in_order_less steps steps' looks c from order late entries = record { noted = noted; rise = (rise_less looks c order.rise).0 }
  where
    noted : (k m : ℕ) → step_at steps' k ≡ Some m → HasLook looks k m
    noted k m e = elim (cases_Bool (k == c.index)) [
      | inl same ↦
          let kept : step_below from (step_at steps k) ≡ Some m = sym (rw same at (entries k)) ∙ e in
          let (there, below) = kept_below from (step_at steps k) m kept in
          elim (has_left looks c k m (order.noted k m there)) [ inl h ↦ h | inr last ↦ absurd (omega (arith, last.1, below, late)) ]
      | inr other ↦
          let there : step_at steps k ≡ Some m = sym (rw other at (entries k)) ∙ e in
          elim (has_left looks c k m (order.noted k m there)) [
            | inl h ↦ h
            | inr last ↦ let yes = eq-eqb k c.index (sym last.0) in let both : false ≡ true = sym other ∙ yes in absurd (cc)
          ]
    ]

-- The erased entries stay the same.
pub still_erased : (steps old steps' : List ℕ) (index from : ℕ) → ((k : ℕ) → step_below from (step_at steps k) ≡ step_below from (step_at old k))
    → ((k : ℕ) → step_at steps' k ≡ (if k == index then step_below from (step_at steps k) else step_at steps k)) → (k : ℕ) → step_below from (step_at steps' k) ≡ step_below from (step_at old k)
still_erased steps old steps' index from same entries k = elim (cases_Bool (k == index)) [
  | inl here ↦ ap (step_below from) (rw here at (entries k)) ∙ twice (step_at steps k) ∙ same k
  | inr other ↦ ap (step_below from) (rw other at (entries k)) ∙ same k
]
  where
    twice : (o : Option ℕ) → step_below from (step_below from o) ≡ step_below from o
    twice None = refl
    twice (Some n) = elim (cases_lt n from) [ inl low ↦ grind (arith, nat_tests) | inr high ↦ grind (arith, nat_tests) ]

-- If no look is as late as `from`, no entry is.
pub none_as_late : (steps : List ℕ) (looks : List Look) (from : ℕ) → IsInOrder steps looks → (looks ≡ []) ⊎ (latest_of looks < from) → (k : ℕ) → step_at steps k ≡ step_below from (step_at steps k)
none_as_late steps looks from order early k = by_entry (step_at steps k) refl
  where
    below : (m : ℕ) → (looks ≡ []) ⊎ (latest_of looks < from) → HasLook looks k m → m < from
    below m (inl none) h = absurd (subst (λ xs. HasLook xs k m) none h)
    below m (inr low) h = let b = has_below looks k m h in omega arith

    by_entry : (o : Option ℕ) → step_at steps k ≡ o → o ≡ step_below from o
    by_entry None e = refl
    by_entry (Some m) e = let low = below m early (order.noted k m e) in grind (arith, nat_tests)

pub nothing_in_order : IsInOrder [] []
nothing_in_order = record { noted = λ k m e. absurd (cc); rise = tt }

pub no_items : (xs : List Look) → length xs ≤ 0 → xs ≡ []
no_items [] h = refl
no_items (x ∷ xs) h = absurd (omega arith)
