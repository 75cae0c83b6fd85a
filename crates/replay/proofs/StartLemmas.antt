-- Where a rerun begins.
use Rattle.std.proofs.Common.{◌≡◌, ℕ, zero, suc, ◌<◌, ◌≤◌, List, [], ◌∷◌, length, drop, take, Some, None, inl, inr, refl, ap, ◌∙◌, subst, arith}
use Rattle.std.specs.Prelude.{slice_get}
use Rattle.std.proofs.lemmas.Bool.{cases_lt}
use Rattle.std.proofs.lemmas.Bool.Decides.{nat_tests}
use Rattle.machine.specs.StateView.{PartialState}
use Rattle.machine.specs.Machine.{Answers, start, outcome, after}
use Rattle.machine.specs.SavedState.{state_with_text}
use Rattle.replay.specs.declared.ring.Checkpoint.{Checkpoint}
use Rattle.replay.specs.Ring.{Each, Rising, IsValidFor, SomeStep, start_step, HasCheckpoint}
use Rattle.machine.proofs.RunLemmas.{after_zero}

pub each_get : (P : Checkpoint → Type 0) (xs : List Checkpoint) (i : ℕ) (c : Checkpoint) → slice_get xs i ≡ Some c → Each P xs → P c
each_get P [] i c e h = cc
each_get P (x ∷ xs) zero c e h = let same : x ≡ c = cc in subst P same h.0
each_get P (x ∷ xs) (suc i) c e h = each_get P xs i c e h.1

pub past_here : (xs : List Checkpoint) (i : ℕ) (c : Checkpoint) (limit : ℕ) → slice_get xs i ≡ Some c → limit < c.step → Each (λ d. limit < d.step) (drop (suc i) xs) → Each (λ d. limit < d.step) (drop i xs)
past_here [] i c limit e b h = cc
past_here (x ∷ xs) zero c limit e b h = let same : x ≡ c = cc in (rw same b, h)
past_here (x ∷ xs) (suc i) c limit e b h = past_here xs i c limit e b h

pub none_within : (limit : ℕ) (xs : List Checkpoint) → Each (λ d. limit < d.step) xs → start_step limit xs ≡ 0
none_within limit [] h = refl
none_within limit (x ∷ xs) h = let b : limit < x.step = h.0 in let r = none_within limit xs h.1 in grind (arith, nat_tests)

pub found : (limit : ℕ) (xs : List Checkpoint) (i : ℕ) (c : Checkpoint) → Rising xs → slice_get xs i ≡ Some c → c.step ≤ limit → Each (λ d. limit < d.step) (drop (suc i) xs) → start_step limit xs ≡ c.step
found limit [] i c r e low h = cc
found limit (x ∷ xs) zero c r e low h =
    let same : x ≡ c = cc in
    let b : x.step ≤ limit = rw same low in
    let rest = none_within limit xs h in
    let top : start_step limit (x ∷ xs) ≡ x.step = grind (arith, nat_tests) in
    top ∙ ap (λ (d : Checkpoint). d.step) same
found limit (x ∷ xs) (suc i) c r e low h =
    let below : x.step < c.step = each_get (λ d. x.step < d.step) xs i c e r.0 in
    let rest = found limit xs i c r.1 e low h in
    grind (arith, nat_tests)

pub has_there : (xs : List Checkpoint) (i : ℕ) (c : Checkpoint) → slice_get xs i ≡ Some c → HasCheckpoint xs c
has_there [] i c e = cc
has_there (x ∷ xs) zero c e = inl (cc)
has_there (x ∷ xs) (suc i) c e = inr (has_there xs i c e)

pub has_valid : (P : Checkpoint → Type 0) (xs : List Checkpoint) (c : Checkpoint) → HasCheckpoint xs c → Each P xs → P c
has_valid P [] c e h = absurd e
has_valid P (x ∷ xs) c (inl e) h = subst P e h.0
has_valid P (x ∷ xs) c (inr e) h = has_valid P xs c e h.1

pub has_step : (xs : List Checkpoint) (c : Checkpoint) → HasCheckpoint xs c → SomeStep xs c.step
has_step [] c e = e
has_step (x ∷ xs) c (inl e) = inl (ap (λ (d : Checkpoint). d.step) e)
has_step (x ∷ xs) c (inr e) = inr (has_step xs c e)

pub start_within : (limit : ℕ) (xs : List Checkpoint) → start_step limit xs ≤ limit
start_within limit [] = omega arith
start_within limit (x ∷ xs) = let r = start_within limit xs in grind (arith, nat_tests)

pub none_get : (xs : List Checkpoint) (i : ℕ) → slice_get xs i ≡ None → length xs ≤ i
none_get [] i e = omega arith
none_get (x ∷ xs) zero e = cc
none_get (x ∷ xs) (suc i) e = let r = none_get xs i e in omega arith

-- A rerun begins at a step that the run reaches.
pub start_reached : (f : Answers) (limit : ℕ) (text : List ℕ) (xs : List Checkpoint) → Each (IsValidFor f text) xs → (st : PartialState) × (after f (start_step limit xs) ≡ Some st)
start_reached f limit text [] h = (start, after_zero (outcome f) start start refl)
start_reached f limit text (x ∷ xs) h = elim (cases_lt limit x.step) [
  | inl past ↦
      let (st, at) = start_reached f limit text xs h.1 in
      let same : start_step limit (x ∷ xs) ≡ start_step limit xs = grind (arith, nat_tests) in
      (st, ap (after f) same ∙ at)
  | inr low ↦ elim (cases_lt x.step (start_step limit xs)) [
    | inl above ↦
        let (st, at) = start_reached f limit text xs h.1 in
        let same : start_step limit (x ∷ xs) ≡ start_step limit xs = grind (arith, nat_tests) in
        (st, ap (after f) same ∙ at)
    | inr top ↦
        let same : start_step limit (x ∷ xs) ≡ x.step = grind (arith, nat_tests) in
        (state_with_text x.state (take x.state.length text), ap (after f) same ∙ h.0.state)
  ]
]
