-- Records by number, when extents change.
use Rattle.std.proofs.Common.{◌≡◌, ◌≢◌, ℕ, zero, suc, ◌<◌, ◌/◌, ◌%◌, ◌==◌, true, false, cond, Bool, List, [], ◌∷◌, ◌++◌, length, slice_get, get_or, set, Option, Some, None, refl, sym, ◌∙◌, ap, arith, inl, inr, get_or-set_same, get_or-set_other, eqb}
use Rattle.std.proofs.lemmas.Bool.Decides.{eqb_tells}
use Rattle.std.proofs.lemmas.List.{get_or_default, set-get_or}
use Rattle.records.specs.Extents.{record_in_extents, record_in_extent, records_by_marks, PutsRecord}
use Rattle.records.specs.Records.{Record}

-- The element at an index after a write.
pub set_read : {X : Type 0} (xs : List X) (a : ℕ) (v d : X) → a < length xs → (q : ℕ) → get_or (set xs a v) q d ≡ cond (q == a) v (get_or xs q d)
set_read xs a v d h q = elim (eqb_tells q a) [
  | inl same ↦ rw same.0 (rw same.1 (get_or-set_same xs a v d h))
  | inr other ↦ rw other.0 (get_or-set_other xs a q v d other.1)
]

-- A value that was read from a list is in it.
pub found : {X : Type 0} (xs : List (Option X)) (i : ℕ) (o : Option X) (x : X) → i < length xs → o ≡ get_or xs i o → o ≡ Some x → get_or xs i None ≡ Some x
found xs i o x h e s = get_or_default xs i None o h ∙ sym e ∙ s

pub missing : {X : Type 0} (xs : List (Option X)) (i : ℕ) (o : Option X) → i < length xs → o ≡ get_or xs i o → o ≡ None → get_or xs i None ≡ None
missing xs i o h e s = get_or_default xs i None o h ∙ sym e ∙ s

-- Writing back a value that was read from a list changes nothing.
pub put_back : {X : Type 0} (xs : List (Option X)) (i : ℕ) (o : Option X) → o ≡ get_or xs i o → set xs i o ≡ xs
put_back xs i o e = ap (set xs i) e ∙ set-get_or xs i o

unmarked : (b : Bool) → None ≡ cond {A = Option Record} b None None
unmarked true = refl
unmarked false = refl

-- The record at an index, by its mark.
pub marked_at : (marks : List Bool) (records : List Record) (q : ℕ) → get_or (records_by_marks marks records) q None ≡ cond (get_or marks q false) (slice_get records q) None
unfolding records_by_marks
marked_at [] records q = refl
marked_at (m ∷ ms) [] q = unmarked (get_or (m ∷ ms) q false)
marked_at (m ∷ ms) (r ∷ rs) zero = refl
marked_at (m ∷ ms) (r ∷ rs) (suc q) = marked_at ms rs q

-- If there are no records, the marks show none.
pub marked_none : (marks : List Bool) (records : List Record) → records ≡ [] → (q : ℕ) → get_or (records_by_marks marks records) q None ≡ None
marked_none marks records e q = rw e (marked_at marks [] q ∙ sym (unmarked (get_or marks q false)))

-- A record and its mark replace others.
set_here : (ms : List Bool) (rs : List Record) (at : ℕ) (r : Record) → at < length rs → at < length ms → get_or (records_by_marks (set ms at true) (set rs at r)) at None ≡ Some r
unfolding records_by_marks
set_here [] rs at r h l = absurd (omega arith)
set_here (m ∷ ms) [] at r h l = absurd (omega arith)
set_here (m ∷ ms) (x ∷ rs) zero r h l = refl
set_here (m ∷ ms) (x ∷ rs) (suc at) r h l = set_here ms rs at r (omega arith) (omega arith)

set_there : (ms : List Bool) (rs : List Record) (at : ℕ) (r : Record) (q : ℕ) → q ≢ at → get_or (records_by_marks (set ms at true) (set rs at r)) q None ≡ get_or (records_by_marks ms rs) q None
unfolding records_by_marks
set_there [] rs at r q n = refl
set_there (m ∷ ms) [] zero r q n = refl
set_there (m ∷ ms) [] (suc at) r q n = refl
set_there (m ∷ ms) (x ∷ rs) zero r zero n = absurd (n refl)
set_there (m ∷ ms) (x ∷ rs) zero r (suc q) n = refl
set_there (m ∷ ms) (x ∷ rs) (suc at) r zero n = refl
set_there (m ∷ ms) (x ∷ rs) (suc at) r (suc q) n = set_there ms rs at r q (λ e. n (ap suc e))

pub marked_set : (marks : List Bool) (records : List Record) (at : ℕ) (r : Record) → at < length records → at < length marks
    → PutsRecord (records_by_marks marks records) at r (records_by_marks (set marks at true) (set records at r))
marked_set marks records at r h l q = elim (eqb_tells q at) [
  | inl same ↦ rw same.0 (rw same.1 (set_here marks records at r h l))
  | inr other ↦ rw other.0 (set_there marks records at r q other.1)
]

-- A record and its mark after the others.
push_there : (ms : List Bool) (rs : List Record) (b : Bool) (r : Record) (q : ℕ) → q ≢ length rs → get_or (records_by_marks (set ms (length rs) b) (rs ++ r ∷ [])) q None ≡ get_or (records_by_marks ms rs) q None
unfolding records_by_marks
push_there [] rs b r q n = refl
push_there (m ∷ ms) [] b r zero n = absurd (n refl)
push_there (m ∷ ms) [] b r (suc q) n = marked_none ms [] refl q
push_there (m ∷ ms) (x ∷ rs) b r zero n = refl
push_there (m ∷ ms) (x ∷ rs) b r (suc q) n = push_there ms rs b r q (λ e. n (ap suc e))

push_here : (ms : List Bool) (rs : List Record) (b : Bool) (r : Record) → length rs < length ms → get_or (records_by_marks (set ms (length rs) b) (rs ++ r ∷ [])) (length rs) None ≡ cond b (Some r) None
unfolding records_by_marks
push_here [] rs b r l = absurd (omega arith)
push_here (m ∷ ms) [] b r l = refl
push_here (m ∷ ms) (x ∷ rs) b r l = push_here ms rs b r (omega arith)

pub marked_push : (marks : List Bool) (records more : List Record) (r : Record) → more ≡ records ++ r ∷ [] → length records < length marks
    → PutsRecord (records_by_marks marks records) (length records) r (records_by_marks (set marks (length records) true) more)
marked_push marks records more r e l q = elim (eqb_tells q (length records)) [
  | inl same ↦ rw same.0 (rw e (rw same.1 (push_here marks records true r l)))
  | inr other ↦ rw other.0 (rw e (push_there marks records true r q other.1))
]

-- The index past the last record has no record.
past : (ms : List Bool) (rs : List Record) → get_or (records_by_marks ms rs) (length rs) None ≡ None
unfolding records_by_marks
past [] rs = refl
past (m ∷ ms) [] = refl
past (m ∷ ms) (x ∷ rs) = past ms rs

pub marked_more : (marks : List Bool) (records more : List Record) (r : Record) → more ≡ records ++ r ∷ [] → length records < length marks → (q : ℕ)
    → get_or (records_by_marks (set marks (length records) false) more) q None ≡ get_or (records_by_marks marks records) q None
marked_more marks records more r e l q = elim (eqb_tells q (length records)) [
  | inl same ↦ rw e (rw same.1 (push_here marks records false r l ∙ sym (past marks records)))
  | inr other ↦ rw e (push_there marks records false r q other.1)
]

-- The record at an index of an extent that exists, and of one that does not.
pub own_found : (es : List (Option (List (Option Record)))) (a : ℕ) (x : List (Option Record)) → Some x ≡ get_or es (a / 128) None → get_or x (a % 128) None ≡ record_in_extents es a
unfolding record_in_extents
own_found es a x e = ap (λ (o : Option (List (Option Record))). record_in_extent o (a % 128)) e

pub own_missing : (es : List (Option (List (Option Record)))) (a : ℕ) → None ≡ get_or es (a / 128) None → None ≡ record_in_extents es a
unfolding record_in_extents
own_missing es a e = ap (λ (o : Option (List (Option Record))). record_in_extent o (a % 128)) e

pub own_none : (es : List (Option (List (Option Record)))) → es ≡ [] → (q : ℕ) → record_in_extents es q ≡ None
unfolding record_in_extents
own_none es e q = rw e refl

-- In one extent, two numbers are equal if and only if their remainders are.
same_rest : (q a : ℕ) → a / 128 ≡ q / 128 → eqb (q % 128) (a % 128) ≡ eqb q a
same_rest q a h = elim (eqb_tells q a) [
  | inl same ↦ elim (eqb_tells (q % 128) (a % 128)) [
    | inl rest ↦ rest.0 ∙ sym same.0
    | inr apart ↦ absurd (apart.1 (ap (λ k. k % 128) same.1))
  ]
  | inr other ↦ elim (eqb_tells (q % 128) (a % 128)) [
    | inl rest ↦ absurd (other.1 (let e : q % 128 ≡ a % 128 = rest.1 in omega arith))
    | inr apart ↦ apart.0 ∙ sym other.0
  ]
]

apart_at : (q a : ℕ) → a / 128 ≢ q / 128 → eqb q a ≡ false
apart_at q a h = elim (eqb_tells q a) [
  | inl same ↦ absurd (h (ap (λ k. k / 128) (sym same.1)))
  | inr other ↦ other.0
]

-- Replacing an extent by one with a record written to it writes the record.
pub own_put : (es fs : List (Option (List (Option Record)))) (a : ℕ) (w : List (Option Record)) (r : Record)
    → ((i : ℕ) → get_or fs i None ≡ cond (i == a / 128) (Some w) (get_or es i None))
    → ((i : ℕ) → get_or w i None ≡ cond (i == a % 128) (Some r) (record_in_extent (get_or es (a / 128) None) i))
    → (q : ℕ) → record_in_extents fs q ≡ cond (eqb q a) (Some r) (record_in_extents es q)
unfolding record_in_extents
own_put es fs a w r h e q = elim (eqb_tells (q / 128) (a / 128)) [
  | inl same ↦ ap (λ (o : Option (List (Option Record))). record_in_extent o (q % 128)) (h (q / 128) ∙ ap (λ b. cond b (Some w) (get_or es (q / 128) None)) same.0)
      ∙ e (q % 128)
      ∙ ap (λ b. cond b (Some r) (record_in_extent (get_or es (a / 128) None) (q % 128))) (same_rest q a (sym same.1))
      ∙ ap (λ k. cond (eqb q a) (Some r) (record_in_extent (get_or es k None) (q % 128))) (sym same.1)
  | inr other ↦ ap (λ (o : Option (List (Option Record))). record_in_extent o (q % 128)) (h (q / 128) ∙ ap (λ b. cond b (Some w) (get_or es (q / 128) None)) other.0)
      ∙ sym (ap (λ b. cond b (Some r) (record_in_extent (get_or es (q / 128) None) (q % 128))) (apart_at q a (λ e. other.1 (sym e))))
]

-- Replacing an extent by one with the same records changes no record.
pub own_same : (es fs : List (Option (List (Option Record)))) (k : ℕ) (w : List (Option Record))
    → ((i : ℕ) → get_or fs i None ≡ cond (i == k) (Some w) (get_or es i None))
    → ((i : ℕ) → get_or w i None ≡ record_in_extent (get_or es k None) i)
    → (q : ℕ) → record_in_extents fs q ≡ record_in_extents es q
unfolding record_in_extents
own_same es fs k w h e q = elim (eqb_tells (q / 128) k) [
  | inl same ↦ ap (λ (o : Option (List (Option Record))). record_in_extent o (q % 128)) (h (q / 128) ∙ ap (λ b. cond b (Some w) (get_or es (q / 128) None)) same.0) ∙ e (q % 128) ∙ ap (λ j. record_in_extent (get_or es j None) (q % 128)) (sym same.1)
  | inr other ↦ ap (λ (o : Option (List (Option Record))). record_in_extent o (q % 128)) (h (q / 128) ∙ ap (λ b. cond b (Some w) (get_or es (q / 128) None)) other.0)
]

-- If the extents are unchanged, so are the records.
pub own_alike : (es fs : List (Option (List (Option Record)))) → ((i : ℕ) → get_or fs i None ≡ get_or es i None) → (q : ℕ) → record_in_extents fs q ≡ record_in_extents es q
unfolding record_in_extents
own_alike es fs h q = ap (λ (o : Option (List (Option Record))). record_in_extent o (q % 128)) (h (q / 128))
