-- Marks of cells and the order in which they were set, when a cell is added or removed.
use Rattle.std.proofs.Common.{inl, inr, ◌≡◌, ◌≢◌, ℕ, zero, suc, ◌+◌, ◌-◌, ◌<◌, Bool, true, false, cond, ◌||◌, List, [], ◌∷◌, ◌++◌, length, get_or, set, take, count_by, refl, sym, ◌∙◌, ap, arith, replicate, eqb, length-set, get_or-set_same, get_or-set_other, slice_index}
use Rattle.std.proofs.Math.Bool.{or-false}
use Rattle.std.proofs.lemmas.Bool.Decides.{eqb_tells}
use Rattle.std.proofs.lemmas.List.{take_more_set, take_more, take-set-le}
use Rattle.std.proofs.lemmas.List.Sums.{sum_by-set, count_by-le-length}
use Rattle.i8080.specs.Memory.{is_among}
use Rattle.i8080.proofs.LookLemmas.{is_among-append}
use Rattle.pagemem.specs.CellMarks.{ListsMarks}
use Rattle.pagemem.proofs.Laws.{set_read, none_set}

abbrev one : Bool → ℕ
one b = cond b 1 0

-- ---- the number of marks that are set

count_set : (marks : List Bool) (a : ℕ) → a < length marks → get_or marks a false ≡ false → count_by (λ b. b) (set marks a true) ≡ count_by (λ b. b) marks + 1
count_set marks a h e =
    let all = sum_by-set (λ b. cond b 1 0) marks a true false h in
    let none : one (get_or marks a false) ≡ 0 = ap one e in
    omega (arith, all, none)

count_unset : (marks : List Bool) (a : ℕ) → a < length marks → get_or marks a false ≡ true → count_by (λ b. b) (set marks a false) ≡ count_by (λ b. b) marks - 1
count_unset marks a h e =
    let all = sum_by-set (λ b. cond b 1 0) marks a false false h in
    let some : one (get_or marks a false) ≡ 1 = ap one e in
    omega (arith, all, some)

-- If a mark is not set, one more can be set.
pub room : (marks : List Bool) (a : ℕ) → a < length marks → get_or marks a false ≡ false → count_by (λ b. b) marks < length marks
room marks a h e =
    let more = count_set marks a h e in
    let most = count_by-le-length (λ b. b) (set marks a true) in
    omega (arith, more, most, length-set marks a true)

pub count_none : (n : ℕ) → count_by (λ b. b) (replicate n false) ≡ 0
count_none zero = refl
count_none (suc n) = count_none n

-- ---- the listing

pub none_counted : (n : ℕ) (marks : List Bool) → marks ≡ replicate n false → count_by (λ b. b) marks ≡ 0
none_counted n marks e = ap (count_by (λ b. b)) e ∙ count_none n

pub none_marked : (n : ℕ) (marks : List Bool) → marks ≡ replicate n false → (q : ℕ) → get_or marks q false ≡ false
none_marked n marks e q = rw e (none_set n q)

pub lists_none : (marks : List Bool) (order : List ℕ) → length marks ≡ 65536 → length order ≡ 65536 → ((q : ℕ) → get_or marks q false ≡ false) → count_by (λ b. b) marks ≡ 0 → ListsMarks marks order 0
lists_none marks order hm ho none zeros = record {
  all_marks = hm;
  all_order = ho;
  counted = sym zeros;
  listed = none;
  apart = λ i h. absurd (omega arith);
}

module _ (marks : List Bool) (order : List ℕ) (count : ℕ) (l : ListsMarks marks order count) where
  -- Adding a cell that is not marked.
  module _ (a : ℕ) (h : a < 65536) (e : get_or marks a false ≡ false) where
    pub fits : count < length order
    fits = let r = room marks a (omega (arith, l.all_marks)) e in omega (arith, r, l.counted, l.all_marks, l.all_order)

    pub added : take (count + 1) (set order count a) ≡ take count order ++ a ∷ []
    added = take_more_set order count a fits

    pub lists_added : ListsMarks (set marks a true) (set order count a) (count + 1)
    lists_added = record {
      all_marks = length-set marks a true ∙ l.all_marks;
      all_order = length-set order count a ∙ l.all_order;
      counted = ap (λ n. n + 1) l.counted ∙ sym (count_set marks a (omega (arith, l.all_marks)) e);
      listed = λ q. set_read marks a true false (omega (arith, l.all_marks)) q ∙ sym (ap (is_among q) added ∙ is_among-append q (take count order) (a ∷ []) ∙ found q);
      apart = earlier;
    } where
      found : (q : ℕ) → (is_among q (take count order) || (eqb q a || false)) ≡ cond (eqb q a) true (get_or marks q false)
      found q = elim (eqb_tells q a) [
        | inl same ↦ rw same.0 (last (is_among q (take count order)))
        | inr other ↦ rw other.0 (or-false (is_among q (take count order)) ∙ sym (l.listed q))
      ] where
        last : (b : Bool) → (b || true) ≡ true
        last true = refl
        last false = refl

      earlier : (i : ℕ) → i < count + 1 → is_among (slice_index (set order count a) i) (take i (set order count a)) ≡ false
      earlier i k = elim (eqb_tells i count) [
        | inl same ↦ let i-is : i ≡ count = same.1 in
            rw i-is (ap (λ x. is_among x (take count (set order count a))) (get_or-set_same order count a 0 fits)
            ∙ ap (is_among a) (take-set-le count order count a (omega arith)) ∙ sym (l.listed a) ∙ e)
        | inr other ↦ let apart : i ≢ count = other.1 in
            ap (λ x. is_among x (take i (set order count a))) (get_or-set_other order count i a 0 apart)
            ∙ ap (is_among (slice_index order i)) (take-set-le i order count a (omega arith)) ∙ l.apart i (omega (arith, apart))
      ]

  -- Removing the last cell.
  module _ (n : ℕ) (last : count ≡ n + 1) where
    pub here : n < length order
    here = let c = count_by-le-length (λ b. b) marks in omega (arith, last, l.counted, l.all_marks, l.all_order, c)

    pub taken : take count order ≡ take n order ++ slice_index order n ∷ []
    taken = ap (λ k. take k order) last ∙ take_more order n 0 here

    marked : get_or marks (slice_index order n) false ≡ true
    marked = l.listed (slice_index order n) ∙ ap (is_among (slice_index order n)) taken ∙ is_among-append (slice_index order n) (take n order) (slice_index order n ∷ []) ∙ at_end (is_among (slice_index order n) (take n order)) (slice_index order n) where
      at_end : (b : Bool) (x : ℕ) → (b || (eqb x x || false)) ≡ true
      at_end true x = refl
      at_end false x = elim (eqb_tells x x) [ inl same ↦ rw same.0 refl | inr other ↦ absurd (other.1 refl) ]

    pub lists_taken : slice_index order n < 65536 → ListsMarks (set marks (slice_index order n) false) order n
    lists_taken h = record {
      all_marks = length-set marks (slice_index order n) false ∙ l.all_marks;
      all_order = l.all_order;
      counted = let c = count_unset marks (slice_index order n) (omega (arith, l.all_marks)) marked in omega (arith, c, l.counted, last);
      listed = left;
      apart = λ i k. l.apart i (omega (arith, last));
    } where
      left : (q : ℕ) → get_or (set marks (slice_index order n) false) q false ≡ is_among q (take n order)
      left q = set_read marks (slice_index order n) false false (omega (arith, l.all_marks)) q ∙ elim (eqb_tells q (slice_index order n)) [
        | inl same ↦ rw (same.0, same.1) (sym (l.apart n (omega (arith, last))))
        | inr other ↦ rw other.0 (l.listed q ∙ ap (is_among q) taken ∙ is_among-append q (take n order) (slice_index order n ∷ []) ∙ ap (λ b. is_among q (take n order) || (b || false)) other.0 ∙ or-false (is_among q (take n order)))
      ]
