-- The steps of indexes that are looked at in ascending order, and of the others.
use Rattle.std.proofs.Common.{◌≡◌, ℕ, zero, suc, ◌+◌, ◌-◌, ◌<◌, ◌≤◌, true, false, List, [], ◌∷◌, ◌++◌, length, take, drop, map, max, Option, Some, None, is_some, inl, inr, refl, ap, sym, ◌∙◌, arith, eqb-true, eq-eqb}
use Rattle.std.specs.Prelude.{◌==◌, slice_index}
use Rattle.std.specs.List.Sorted.{IsNonDecreasing}
use Rattle.std.proofs.lemmas.Bool.{cases_lt, cases_Bool, lt-ltb, le-ltb}
use Rattle.std.proofs.lemmas.List.{length-append, length-drop, length-map, length-take-le, length_push, get_or_append_left, get_or-append_right, get_or-drop, get_or-map, get_or-take, get_or_push, get_or_default, get_or_past}
use Rattle.std.proofs.lemmas.List.Sorted.{IsNonDecreasingBy-push}
use Rattle.first_looks.specs.Noting.{or_else, step_if, step_below}
use Rattle.first_looks.specs.FirstSteps.{step_in}
use Rattle.first_looks.specs.SequentialSteps.{AreSequential, IsEarliestFrom, all_steps, last_step}

-- ---- the step of one index

module _ (xs : List ℕ) (ys : List (Option ℕ)) where
  pub in_turn_at : (k : ℕ) → k < length xs → step_in (all_steps xs ys) k ≡ Some (slice_index xs k)
  in_turn_at k h =
      get_or_append_left (map (λ (n : ℕ). Some n) xs) (drop (length xs) ys) None k (omega (arith, length-map xs (λ (n : ℕ). Some n)))
      ∙ get_or-map (λ (n : ℕ). Some n) xs k 0 None h

  pub other_at : (k : ℕ) → length xs ≤ k → step_in (all_steps xs ys) k ≡ step_in ys k
  other_at k h =
      get_or-append_right (map (λ (n : ℕ). Some n) xs) (drop (length xs) ys) (length xs) k None (length-map xs (λ (n : ℕ). Some n)) h
      ∙ get_or-drop (length xs) ys (k - length xs) None
      ∙ ap (λ n. step_in ys n) (let e : length xs + (k - length xs) ≡ k = omega arith in e)

  pub length-joined : length (all_steps xs ys) ≡ max (length xs) (length ys)
  length-joined = simp (length-append, length-map, length-drop) (omega arith)

-- If no other index past the ones in order has a step, no index past one of these has an earlier step.
pub earliest : (xs : List ℕ) (ys : List (Option ℕ)) → AreSequential xs ys → length ys ≤ length xs → (index : ℕ) → index < length xs → IsEarliestFrom (all_steps xs ys) index
earliest xs ys turn short index h = (slice_index xs index, in_turn_at xs ys index h, later)
  where
    later : (k n : ℕ) → index ≤ k → step_in (all_steps xs ys) k ≡ Some n → slice_index xs index ≤ n
    later k n behind there = elim (cases_lt k (length xs)) [
      | inl inside ↦
          let both : Some (slice_index xs k) ≡ Some n = sym (in_turn_at xs ys k inside) ∙ there in
          let same : slice_index xs k ≡ n = cc in
          let up : slice_index xs index ≤ slice_index xs k = turn.rise index k 0 behind inside in
          omega (arith, same, up)
      | inr past ↦
          let none : step_in ys k ≡ None = get_or_past ys k None (omega arith) in
          let both : None ≡ Some n = sym none ∙ sym (other_at xs ys k past) ∙ there in
          absurd (cc)
    ]

or_none : (o : Option ℕ) → or_else o None ≡ o
or_none None = refl
or_none (Some n) = refl

pub none_if : (o : Option ℕ) → is_some o ≡ false → o ≡ None
none_if None e = refl
none_if (Some n) e = cc

not_here : (k index step : ℕ) → (k ≡ index → ⊥) → step_if (k == index) step ≡ None
not_here k index step ne = elim (cases_Bool (k == index)) [
  | inl same ↦ absurd (ne (eqb-true k index same))
  | inr other ↦ rw other refl
]

-- ---- one more step

module _ (xs : List ℕ) (ys : List (Option ℕ)) (step : ℕ) where
  -- An index in order has its step, and keeps it.
  pub kept_in_turn : (index : ℕ) → index < length xs → (k : ℕ) → step_in (all_steps xs ys) k ≡ or_else (step_in (all_steps xs ys) k) (step_if (k == index) step)
  kept_in_turn index h k = elim (cases_lt k (length xs)) [
    | inl inside ↦ rw (in_turn_at xs ys k inside) refl
    | inr past ↦ rw (not_here k index step (λ same. omega (arith, same))) (sym (or_none (step_in (all_steps xs ys) k)))
  ]

  module _ (none : step_in ys (length xs) ≡ None) where
    pub pushed_at : (k : ℕ) → step_in (all_steps (xs ++ step ∷ []) ys) k ≡ or_else (step_in (all_steps xs ys) k) (step_if (k == length xs) step)
    pushed_at k = elim (cases_lt k (length xs)) [
      | inl inside ↦
          in_turn_at (xs ++ step ∷ []) ys k (omega (arith, length_push xs step))
          ∙ ap (λ (n : ℕ). Some n) (get_or_append_left xs (step ∷ []) 0 k inside)
          ∙ rw (in_turn_at xs ys k inside) refl
      | inr past ↦ rw (other_at xs ys k past) (elim (cases_Bool (k == length xs)) [
        | inl here ↦
            let e : k ≡ length xs = eqb-true k (length xs) here in
            in_turn_at (xs ++ step ∷ []) ys k (omega (arith, length_push xs step, e))
            ∙ ap (λ (n : ℕ). Some n) (get_or_push xs step 0 k (sym e))
            ∙ rw (here, ap (step_in ys) e ∙ none) refl
        | inr other ↦
            let beyond : length xs + 1 ≤ k = let ne : k ≡ length xs → ⊥ = λ e. let yes = eq-eqb k (length xs) e in let no : false ≡ true = sym other ∙ yes in cc in omega (arith, ne) in
            other_at (xs ++ step ∷ []) ys k (omega (arith, length_push xs step))
            ∙ rw other (sym (or_none (step_in ys k)))
      ])
    ]

    pub in_turn_pushed : AreSequential xs ys → last_step xs ≤ step → AreSequential (xs ++ step ∷ []) ys
    in_turn_pushed turn below = record {
      rise = IsNonDecreasingBy-push (λ x. x) xs step turn.rise (λ d some. omega (arith, get_or_default xs (length xs - 1) d 0 (omega arith), below));
      apart = λ k h. elim (cases_lt k (length xs)) [
        | inl inside ↦ turn.apart k inside
        | inr past ↦ ap (step_in ys) (let e : k ≡ length xs = omega (arith, length_push xs step) in e) ∙ none
      ];
    }

  -- Another index gets a step.
  module _ (ys' : List (Option ℕ)) (index : ℕ) (past : length xs ≤ index) (noted : (k : ℕ) → step_in ys' k ≡ or_else (step_in ys k) (step_if (k == index) step)) where
    pub noted_at : (k : ℕ) → step_in (all_steps xs ys') k ≡ or_else (step_in (all_steps xs ys) k) (step_if (k == index) step)
    noted_at k = elim (cases_lt k (length xs)) [
      | inl inside ↦ rw (in_turn_at xs ys k inside) (in_turn_at xs ys' k inside)
      | inr beyond ↦ rw (other_at xs ys k beyond) (other_at xs ys' k beyond ∙ noted k)
    ]

-- ---- the same steps

module _ (xs : List ℕ) (ys ys' : List (Option ℕ)) (same : (k : ℕ) → step_in ys' k ≡ step_in ys k) where
  pub same_at : (k : ℕ) → step_in (all_steps xs ys') k ≡ step_in (all_steps xs ys) k
  same_at k = elim (cases_lt k (length xs)) [
    | inl inside ↦ in_turn_at xs ys' k inside ∙ sym (in_turn_at xs ys k inside)
    | inr past ↦ other_at xs ys' k past ∙ same k ∙ sym (other_at xs ys k past)
  ]

-- ---- the steps below one

below_stays : (n from : ℕ) → n < from → step_below from (Some n) ≡ Some n
below_stays n from h = rw (lt-ltb n from h) refl

past_goes : (n from : ℕ) → from ≤ n → step_below from (Some n) ≡ None
past_goes n from h = rw (le-ltb n from h) refl

module _ (xs : List ℕ) (ys ys' : List (Option ℕ)) (i from : ℕ) (turn : AreSequential xs ys) (within : i ≤ length xs)
    (below : (k : ℕ) → k < i → slice_index xs k < from) (past : (k : ℕ) → i ≤ k → k < length xs → from ≤ slice_index xs k)
    (others : (k : ℕ) → step_in ys' k ≡ step_below from (step_in ys k)) where
  pub erased_at : (k : ℕ) → step_in (all_steps (take i xs) ys') k ≡ step_below from (step_in (all_steps xs ys) k)
  erased_at k = elim (cases_lt k i) [
    | inl low ↦
        in_turn_at (take i xs) ys' k (omega (arith, length-take-le i xs within))
        ∙ ap (λ (n : ℕ). Some n) (get_or-take i xs k 0 low)
        ∙ sym (below_stays (slice_index xs k) from (below k low))
        ∙ ap (step_below from) (sym (in_turn_at xs ys k (omega arith)))
    | inr high ↦
        other_at (take i xs) ys' k (omega (arith, length-take-le i xs within)) ∙ others k
        ∙ elim (cases_lt k (length xs)) [
          | inl inside ↦
              ap (step_below from) (turn.apart k inside)
              ∙ sym (past_goes (slice_index xs k) from (past k high inside))
              ∙ ap (step_below from) (sym (in_turn_at xs ys k inside))
          | inr beyond ↦ ap (step_below from) (sym (other_at xs ys k beyond))
        ]
  ]

-- The last of the steps that are left.
pub last_left : (xs : List ℕ) (i from : ℕ) → IsNonDecreasing xs → i ≤ length xs → ((k : ℕ) → k < i → slice_index xs k < from)
    → (last_step (take i xs) ≤ last_step xs) × (last_step (take i xs) ≤ from)
last_left xs zero from rise within below = (omega arith, omega arith)
last_left xs (suc i) from rise within below =
    let index : length (take (suc i) xs) - 1 ≡ i = omega (arith, length-take-le (suc i) xs within) in
    let last : last_step (take (suc i) xs) ≡ slice_index xs i = ap (slice_index (take (suc i) xs)) index ∙ get_or-take (suc i) xs i 0 (omega arith) in
    let up : slice_index xs i ≤ last_step xs = rise i (length xs - 1) 0 (omega arith) (omega arith) in
    let low : slice_index xs i < from = below i (omega arith) in
    (omega (arith, last, up), omega (arith, last, low))
