-- A text cut at a byte, as it grows.
use Rattle.std.proofs.Common.{◌≡◌, ℕ, suc, ◌<◌, List, [], ◌∷◌, ◌++◌, length, refl, sym, ap, ◌∙◌, ◌+◌, ◌-◌, ◌≤◌, arith, add-one, zero-le, eqb-true, take-append-drop, drop-cons, append_assoc, inl, inr, eqb, take, drop, zero, slice_index}
use Rattle.std.proofs.lemmas.Bool.{cases_Bool, eq-eqb, ne_eqb}
use Rattle.std.proofs.lemmas.List.{append-nil, length-drop, take_all}
use Rattle.memchr.specs.Find.{Nowhere, NoneBefore, Passes, is_byte}
use Rattle.edit_lines.specs.Pieces.{first_piece, other_pieces, pieces, without_empty_last, lines_of, past_lines}

nil_ne_snoc : (ds : List (List ℕ)) (l : List ℕ) → [] ≡ ds ++ l ∷ [] → ⊥
nil_ne_snoc [] l e = cc
nil_ne_snoc (d ∷ ds) l e = cc

-- In a longer text, the last piece continues and the other pieces are the same.
pub pieces-append : (cut : ℕ) (xs ys : List ℕ) (ds : List (List ℕ)) (l : List ℕ) → pieces cut xs ≡ ds ++ l ∷ []
    → pieces cut (xs ++ ys) ≡ ds ++ (l ++ first_piece cut ys) ∷ other_pieces cut ys
pieces-append cut [] ys [] l e = let n : [] ≡ l = cc in rw (← n) refl
pieces-append cut [] ys (d ∷ ds) l e = absurd (nil_ne_snoc ds l cc)
pieces-append cut (b ∷ xs) ys [] l e = elim (cases_Bool (eqb b cut)) [
  | inl t ↦ let g = rw t at e in absurd (cc)
  | inr f ↦ let g = rw f at e in
      let others : other_pieces cut xs ≡ [] = cc in
      let again = pieces-append cut xs ys [] (first_piece cut xs) (ap (λ ps. first_piece cut xs ∷ ps) others) in
      let word : b ∷ first_piece cut xs ≡ l = cc in
      rw (f, ← word) cc
]
pieces-append cut (b ∷ xs) ys (d ∷ ds) l e = elim (cases_Bool (eqb b cut)) [
  | inl t ↦ let g = rw t at e in
      let again = pieces-append cut xs ys ds l cc in
      rw t cc
  | inr f ↦ let g = rw f at e in
      let others : other_pieces cut xs ≡ ds ++ l ∷ [] = cc in
      let again = pieces-append cut xs ys (first_piece cut xs ∷ ds) l (ap (λ ps. first_piece cut xs ∷ ps) others) in
      rw f cc
]

-- What follows the ended lines is the last piece and the rest.
pub past_lines-pieces : (xs ys : List ℕ) (ds : List (List ℕ)) (l : List ℕ) → pieces 10 xs ≡ ds ++ l ∷ []
    → past_lines (length ds) (xs ++ ys) ≡ l ++ ys
past_lines-pieces [] ys [] l e = let n : [] ≡ l = cc in rw (← n) refl
past_lines-pieces [] ys (d ∷ ds) l e = absurd (nil_ne_snoc ds l cc)
past_lines-pieces (b ∷ xs) ys [] l e = elim (cases_Bool (eqb b 10)) [
  | inl t ↦ let g = rw t at e in absurd (cc)
  | inr f ↦ let g = rw f at e in
      let others : other_pieces 10 xs ≡ [] = cc in
      let again : xs ++ ys ≡ first_piece 10 xs ++ ys = past_lines-pieces xs ys [] (first_piece 10 xs) (ap (λ ps. first_piece 10 xs ∷ ps) others) in
      let word : b ∷ first_piece 10 xs ≡ l = cc in
      rw (← word) (ap (λ s. b ∷ s) again)
]
past_lines-pieces (b ∷ xs) ys (d ∷ ds) l e = elim (cases_Bool (eqb b 10)) [
  | inl t ↦ let g = rw t at e in rw t (past_lines-pieces xs ys ds l cc)
  | inr f ↦ let g = rw f at e in
      let others : other_pieces 10 xs ≡ ds ++ l ∷ [] = cc in
      rw f (past_lines-pieces xs ys (first_piece 10 xs ∷ ds) l (ap (λ ps. first_piece 10 xs ∷ ps) others))
]

-- No more bytes follow more lines.
past_lines_shorter : (j : ℕ) (xs : List ℕ) → length (past_lines j xs) ≤ length xs
past_lines_shorter zero xs = omega arith
past_lines_shorter (suc j) [] = omega arith
past_lines_shorter (suc j) (b ∷ xs) = elim (cases_Bool (eqb b 10)) [
  | inl t ↦ rw t (omega (arith, past_lines_shorter j xs))
  | inr f ↦ rw f (omega (arith, past_lines_shorter (suc j) xs))
]

pub past_more_lines : (j k : ℕ) (xs : List ℕ) → j ≤ k → length (past_lines k xs) ≤ length (past_lines j xs)
past_more_lines zero k xs h = past_lines_shorter k xs
past_more_lines (suc j) zero xs h = absurd (omega (arith, h))
past_more_lines (suc j) (suc k) [] h = omega arith
past_more_lines (suc j) (suc k) (b ∷ xs) h = elim (cases_Bool (eqb b 10)) [
  | inl t ↦ rw t (past_more_lines j k xs (omega (arith, h)))
  | inr f ↦ rw f (past_more_lines (suc j) (suc k) xs h)
]

-- The first piece of a longer text is as long or longer.
pub first_piece-longer : (xs ys : List ℕ) → length (first_piece 10 xs) ≤ length (first_piece 10 (xs ++ ys))
first_piece-longer [] ys = omega arith
first_piece-longer (b ∷ xs) ys = elim (cases_Bool (eqb b 10)) [
  | inl t ↦ rw t (omega arith)
  | inr f ↦ rw f (omega (arith, first_piece-longer xs ys))
]

-- Only the last member matters.
pub without_empty_last-append : (ds : List (List ℕ)) (q : List ℕ) (qs : List (List ℕ))
    → without_empty_last (ds ++ q ∷ qs) ≡ ds ++ without_empty_last (q ∷ qs)
without_empty_last-append [] q qs = refl
without_empty_last-append (d ∷ []) q qs = refl
without_empty_last-append (d ∷ e ∷ ds) q qs = ap (λ ps. d ∷ ps) (without_empty_last-append (e ∷ ds) q qs)

-- The lines of a longer text.
pub lines_of-append : (xs ys : List ℕ) (ds : List (List ℕ)) (l : List ℕ) → pieces 10 xs ≡ ds ++ l ∷ []
    → lines_of (xs ++ ys) ≡ ds ++ without_empty_last ((l ++ first_piece 10 ys) ∷ other_pieces 10 ys)
lines_of-append xs ys ds l e =
    ap without_empty_last (pieces-append 10 xs ys ds l e) ∙ without_empty_last-append ds _ _

-- The lines of a text.
pub lines_of-pieces : (xs : List ℕ) (ds : List (List ℕ)) (l : List ℕ) → pieces 10 xs ≡ ds ++ l ∷ []
    → lines_of xs ≡ ds ++ without_empty_last (l ∷ [])
lines_of-pieces xs ds l e = ap without_empty_last e ∙ without_empty_last-append ds l []

-- Bytes among which none equals cut.
pub uncut : (cut : ℕ) (bs : List ℕ) → ((i : ℕ) → i < length bs → slice_index bs i ≡ cut → ⊥) → pieces cut bs ≡ bs ∷ []
uncut cut [] none = refl
uncut cut (b ∷ bs) none =
    let f = ne_eqb b cut (none 0 (omega arith)) in
    let again = uncut cut bs (λ i h. none (suc i) (omega (arith, h))) in
    rw f cc

-- Bytes whose first one that equals cut is at index k.
pub cut_at : (cut : ℕ) (bs : List ℕ) (k : ℕ) → k < length bs → ((i : ℕ) → i < k → slice_index bs i ≡ cut → ⊥) → slice_index bs k ≡ cut
    → pieces cut bs ≡ take k bs ∷ pieces cut (drop (suc k) bs)
cut_at cut [] k h none here = absurd (omega (arith, h))
cut_at cut (b ∷ bs) zero h none here = let t = eq-eqb b cut here in rw t refl
cut_at cut (b ∷ bs) (suc k) h none here =
    let f = ne_eqb b cut (none 0 (omega arith)) in
    let again = cut_at cut bs k (omega (arith, h)) (λ i below. none (suc i) (omega (arith, below))) here in
    rw f cc

-- The bytes before such an index are one piece.
front_uncut : (cut : ℕ) (bs : List ℕ) (k : ℕ) → ((i : ℕ) → i < k → slice_index bs i ≡ cut → ⊥) → pieces cut (take k bs) ≡ take k bs ∷ []
front_uncut cut bs zero none = refl
front_uncut cut [] (suc k) none = refl
front_uncut cut (b ∷ bs) (suc k) none =
    let f = ne_eqb b cut (none 0 (omega arith)) in
    let again = front_uncut cut bs k (λ i below. none (suc i) (omega (arith, below))) in
    rw f cc

-- ---- what a search for a byte found

module _ (cut : ℕ) (bs : List ℕ) where
  pub found_nowhere : Nowhere (Passes (is_byte cut) bs) 0 (length bs) → pieces cut bs ≡ bs ∷ []
  found_nowhere none = uncut cut bs (λ i below same. none i zero-le below (eq-eqb (slice_index bs i) cut same))

  module _ (k : ℕ) (first : NoneBefore (Passes (is_byte cut) bs) 0 (length bs) k) where
    none_before : (i : ℕ) → i < k → slice_index bs i ≡ cut → ⊥
    none_before i below same = first.before i zero-le below (eq-eqb (slice_index bs i) cut same)

    pub found_front : pieces cut (take k bs) ≡ take k bs ∷ []
    found_front = front_uncut cut bs k none_before

    module _ (here : Passes (is_byte cut) bs k) where
      pub found_pieces : pieces cut bs ≡ take k bs ∷ pieces cut (drop (k + 1) bs)
      found_pieces = rw add-one (cut_at cut bs k first.high none_before (eqb-true (slice_index bs k) cut here))

      pub found_split : take k bs ++ (cut ∷ drop (k + 1) bs) ≡ bs
      found_split =
          let one : drop k bs ≡ slice_index bs k ∷ drop (k + 1) bs = rw (add-one, drop-cons bs k 0 first.high) refl in
          ap (λ (c : ℕ). take k bs ++ (c ∷ drop (k + 1) bs)) (sym (eqb-true (slice_index bs k) cut here))
          ∙ ap (λ (t : List ℕ). take k bs ++ t) (sym one) ∙ take-append-drop k bs

-- Bytes without 0AH continue the last line of a text.
pub cut_beside : (xs : List ℕ) (ds : List (List ℕ)) (l : List ℕ) → pieces 10 xs ≡ ds ++ l ∷ [] → (bs : List ℕ) → pieces 10 bs ≡ bs ∷ []
    → pieces 10 (xs ++ bs) ≡ ds ++ (l ++ bs) ∷ []
cut_beside xs ds l e bs part =
    let first : first_piece 10 bs ≡ bs = cc in
    let others : other_pieces 10 bs ≡ [] = cc in
    let p = pieces-append 10 xs bs ds l e in rw (first, others) at p

-- 0AH ends the last line.
pub cut_here : (xs : List ℕ) (ds : List (List ℕ)) (l : List ℕ) → pieces 10 xs ≡ ds ++ l ∷ []
    → pieces 10 (xs ++ 10 ∷ []) ≡ (ds ++ l ∷ []) ++ [] ∷ []
cut_here xs ds l e =
    pieces-append 10 xs (10 ∷ []) ds l e
    ∙ ap (λ p. ds ++ p ∷ [] ∷ []) (append-nil l)
    ∙ sym (append_assoc ds (l ∷ []) ([] ∷ []))

-- A last line that is not empty is a line.
pub one_line : (l : List ℕ) → 0 < length l → without_empty_last (l ∷ []) ≡ l ∷ []
one_line [] h = absurd (omega arith)
one_line (b ∷ l) h = refl

-- The bytes from an index on.
pub all_after : (m : ℕ) (t : List ℕ) → take (length t - m) (drop m t) ≡ drop m t
all_after m t = take_all (length t - m) (drop m t) (omega (arith, length-drop m t))
