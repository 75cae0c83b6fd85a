-- A set of drives agrees with its marks.
use Rattle.std.proofs.Common.{◌≡◌, ℕ, zero, suc, ◌+◌, ◌<◌, ◌≤◌, ◌==◌, Bool, true, false, cond, is_some, List, [], ◌∷◌, length, ◌-◌, get_or, slice_set, replicate, get_or-set_same, get_or-set_other, Option, Some, None, inl, inr, refl, sym, ap, ◌∙◌, arith}
use Rattle.std.proofs.lemmas.Bool.Decides.{eqb_tells}
use Rattle.std.specs.Ordering.{nat_cmp, eq_by_cmp}
use Rattle.std.specs.Cmp.{nat_cmp_total, unsigned_tied}
use Rattle.std.specs.FinMap.{FinMap, find, from_entries, empty_of_len, get, contains_key, insert, remove, empty, len, get-empty, get-from_entries, get-insert, get-remove, nat_cmp-IsAntisymmetric, same_map, len-empty, len-insert, len-remove}
use Rattle.keymaps.specs.Marks.{marked_numbers_from, marked_numbers}

-- The value of a number with this mark.
abbrev mark_at : Bool → Option (Unit {0})
mark_at true = Some tt
mark_at false = None

is_some-mark_at : (b : Bool) → is_some (mark_at b) ≡ b
is_some-mark_at true = refl
is_some-mark_at false = refl

here : (q n : ℕ) → q ≡ n → eq_by_cmp nat_cmp q n ≡ true
here q n e = unsigned_tied q n ∙ elim (eqb_tells q n) [ inl same ↦ same.0 | inr other ↦ absurd (other.1 e) ]

apart : (q n : ℕ) → (q ≡ n → ⊥) → eq_by_cmp nat_cmp q n ≡ false
apart q n h = unsigned_tied q n ∙ elim (eqb_tells q n) [ inl same ↦ absurd (h same.1) | inr other ↦ other.0 ]

-- A number before the first one has no mark.
before : (n q : ℕ) (marks : List Bool) → q < n → find nat_cmp q (marked_numbers_from n marks) ≡ None
before n q [] h = refl
before n q (true ∷ marks) h = ap (λ b. cond b (Some tt) (find nat_cmp q (marked_numbers_from (suc n) marks))) (apart q n (λ e. omega arith)) ∙ before (suc n) q marks (omega arith)
before n q (false ∷ marks) h = before (suc n) q marks (omega arith)

find_marked : (n k q : ℕ) (marks : List Bool) → q ≡ n + k → find nat_cmp q (marked_numbers_from n marks) ≡ mark_at (get_or marks k false)
find_marked n k q [] e = refl
find_marked n zero q (true ∷ marks) e = ap (λ b. cond b (Some tt) (find nat_cmp q (marked_numbers_from (suc n) marks))) (here q n (omega arith))
find_marked n zero q (false ∷ marks) e = before (suc n) q marks (omega arith)
find_marked n (suc k) q (true ∷ marks) e = ap (λ b. cond b (Some tt) (find nat_cmp q (marked_numbers_from (suc n) marks))) (apart q n (λ h. omega arith)) ∙ find_marked (suc n) k q marks (omega arith)
find_marked n (suc k) q (false ∷ marks) e = find_marked (suc n) k q marks (omega arith)

get_marked : (marks : List Bool) (q : ℕ) → get (marked_numbers marks) q ≡ mark_at (get_or marks q false)
unfolding marked_numbers
get_marked marks q = get-from_entries nat_cmp_total (marked_numbers_from 0 marks) q ∙ find_marked 0 q q marks (omega arith)

pub contains_marked : (marks : List Bool) (q : ℕ) → contains_key (marked_numbers marks) q ≡ get_or marks q false
contains_marked marks q = ap is_some (get_marked marks q) ∙ is_some-mark_at (get_or marks q false)

pub absent_marked : (marks : List Bool) (q : ℕ) → get_or marks q false ≡ false → get (marked_numbers marks) q ≡ None
absent_marked marks q h = get_marked marks q ∙ ap mark_at h

pub there_marked : (marks : List Bool) (q : ℕ) → get_or marks q false ≡ true → get (marked_numbers marks) q ≡ Some tt
there_marked marks q h = get_marked marks q ∙ ap mark_at h

marked_none : (marks : List Bool) → ((q : ℕ) → get_or marks q false ≡ false) → marked_numbers marks ≡ empty
marked_none marks h = same_map nat_cmp_total nat_cmp-IsAntisymmetric _ _ (λ q. absent_marked marks q (h q) ∙ sym (get-empty nat_cmp q))

pub marked_insert : (marks : List Bool) (d : ℕ) → d < length marks → marked_numbers (slice_set marks d true) ≡ insert (marked_numbers marks) d tt
marked_insert marks d low = same_map nat_cmp_total nat_cmp-IsAntisymmetric _ _ (λ q.
    get_marked (slice_set marks d true) q ∙ at q
    ∙ sym (get-insert nat_cmp_total (marked_numbers marks) d tt q ∙ ap (λ b. cond b (Some tt) (get (marked_numbers marks) q)) (unsigned_tied q d))) where
      at : (q : ℕ) → mark_at (get_or (slice_set marks d true) q false) ≡ cond (q == d) (Some tt) (get (marked_numbers marks) q)
      at q = elim (eqb_tells q d) [
        | inl same ↦ rw same.0 (ap (λ n. mark_at (get_or (slice_set marks d true) n false)) same.1 ∙ ap mark_at (get_or-set_same marks d true false low))
        | inr other ↦ rw other.0 (ap mark_at (get_or-set_other marks d q true false other.1) ∙ sym (get_marked marks q))
      ]

pub marked_remove : (marks : List Bool) (d : ℕ) → d < length marks → marked_numbers (slice_set marks d false) ≡ remove (marked_numbers marks) d
marked_remove marks d low = same_map nat_cmp_total nat_cmp-IsAntisymmetric _ _ (λ q.
    get_marked (slice_set marks d false) q ∙ at q
    ∙ sym (get-remove nat_cmp_total (marked_numbers marks) d q ∙ ap (λ b. cond b None (get (marked_numbers marks) q)) (unsigned_tied q d))) where
      at : (q : ℕ) → mark_at (get_or (slice_set marks d false) q false) ≡ cond (q == d) None (get (marked_numbers marks) q)
      at q = elim (eqb_tells q d) [
        | inl same ↦ rw same.0 (ap (λ n. mark_at (get_or (slice_set marks d false) n false)) same.1 ∙ ap mark_at (get_or-set_same marks d false false low))
        | inr other ↦ rw other.0 (ap mark_at (get_or-set_other marks d q false false other.1) ∙ sym (get_marked marks q))
      ]

-- ---- the number of marks that are set

len_entries : (es : List (ℕ × Unit {0})) → len (from_entries {R = nat_cmp} es) ≤ length es
len_entries [] = let none = len-empty nat_cmp (Unit {0}) in omega (arith, none)
len_entries (e ∷ es) = by _ (len-insert nat_cmp_total (from_entries es) e.0 e.1) (len_entries es) where
  by : (b : Bool) {n m k : ℕ} → n ≡ cond b m (m + 1) → m ≤ k → n ≤ suc k
  by true e h = omega arith
  by false e h = omega arith

length_marked : (n : ℕ) (marks : List Bool) → length (marked_numbers_from n marks) ≤ length marks
length_marked n [] = omega arith
length_marked n (true ∷ marks) = let rest = length_marked (suc n) marks in omega (arith, rest)
length_marked n (false ∷ marks) = let rest = length_marked (suc n) marks in omega (arith, rest)

-- It is at most the number of marks.
pub len_marked : (marks : List Bool) → len (marked_numbers marks) ≤ length marks
unfolding marked_numbers
len_marked marks = let some = len_entries (marked_numbers_from 0 marks) in let all = length_marked 0 marks in omega (arith, some, all)

-- If the count is 0, every number is absent.
pub none_left : (m : FinMap nat_cmp (Unit {0})) → len m ≡ 0 → (q : ℕ) → get m q ≡ None
none_left m e q = ap (λ x. get x q) (empty_of_len m e) ∙ get-empty nat_cmp q

unmarked : (n q : ℕ) → get_or (replicate n false) q false ≡ false
unmarked zero q = refl
unmarked (suc n) zero = refl
unmarked (suc n) (suc q) = unmarked n q

pub none_marked : (n : ℕ) → marked_numbers (replicate n false) ≡ empty
none_marked n = marked_none (replicate n false) (unmarked n)

-- ---- the count, when a mark is set or cleared

pub few : (marks : List Bool) (count : ℕ) → length marks ≡ 256 → count ≡ len (marked_numbers marks) → count ≤ 256
few marks count whole counted = let all = len_marked marks in omega (arith, counted, all, whole)

module _ (marks : List Bool) (count d : ℕ) (whole : length marks ≡ 256) (counted : count ≡ len (marked_numbers marks)) (low : d < 256) where
  pub one_more : get_or marks d false ≡ false → count + 1 ≡ len (marked_numbers (slice_set marks d true))
  one_more h =
      ap (λ n. n + 1) counted
      ∙ sym (ap len (marked_insert marks d (rw whole low)) ∙ len-insert nat_cmp_total (marked_numbers marks) d tt ∙ ap (λ b. cond b (len (marked_numbers marks)) (len (marked_numbers marks) + 1)) (contains_marked marks d ∙ h))

  pub one_less : get_or marks d false ≡ true → count - 1 ≡ len (marked_numbers (slice_set marks d false))
  one_less h =
      ap (λ n. n - 1) counted
      ∙ sym (ap len (marked_remove marks d (rw whole low)) ∙ len-remove nat_cmp_total (marked_numbers marks) d ∙ ap (λ b. cond b (len (marked_numbers marks) - 1) (len (marked_numbers marks))) (contains_marked marks d ∙ h))
