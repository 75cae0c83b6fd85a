-- Writes and looks, by address.
use Rattle.std.proofs.lemmas.Bool.{eq-eqb}
use Rattle.std.proofs.Math.Dec.{eqb}
use Rattle.std.proofs.Common.{IsTrue, ◌≡◌, ◌≢◌, ℕ, ◌<◌, ◌+◌, ◌/◌, ◌%◌, Bool, true, false, cond, ◌==◌, List, length, get_or, set, Option, Some, None, is_some, refl, sym, ◌∙◌, ap, subst, arith, slice_set, ◌++◌, ◌∷◌, [], replicate, zero, suc, inl, inr, get_or-set_same, get_or-set_other}
use Rattle.std.proofs.Math.Path.{fun_ext}
use native.Mathlib.Numerals.{unary_clauses}
use Rattle.std.proofs.Common.{add-one}
use Rattle.std.proofs.lemmas.Bool.Decides.{eqb_tells, leb_tells}
use Rattle.std.proofs.lemmas.List.{get_or_past, set-get_or}
use Rattle.std.proofs.Common.{◌≤◌}
use Rattle.i8080.specs.Memory.{Own, Looks, look, write, is_among}
use Rattle.pagemem.specs.Plain.{plain_own}
use Rattle.pagemem.specs.Pages.{SameOwn, SameOwned, is_owned, ready_at, page_own, slot_own, own_at}
use Rattle.pagemem.specs.declared.page.Page.{Page}
use Rattle.pagemem.specs.declared.page.Slot.{Slot}
use Rattle.pagemem.specs.declared.page.Slot.TheVariants.{Empty}

-- The element at an index after a write.
pub set_read : {X : Type 0} (xs : List X) (a : ℕ) (v d : X) → a < length xs → (q : ℕ) → get_or (set xs a v) q d ≡ cond (q == a) v (get_or xs q d)
set_read xs a v d h q = elim (eqb_tells q a) [
  | inl same ↦ rw same.0 (rw same.1 (get_or-set_same xs a v d h))
  | inr other ↦ rw other.0 (get_or-set_other xs a q v d other.1)
]

pub plain_write : (bytes : List ℕ) (a v : ℕ) → a < length bytes → plain_own (slice_set bytes a v) ≡ write (plain_own bytes) a v
unfolding write
plain_write bytes a v h = fun_ext (λ q. rw (set_read bytes a v 0 h q) (pick (q == a) (get_or bytes q 0))) where
  pick : (e : Bool) (n : ℕ) → Some (cond e v n) ≡ cond e (Some v) (Some n)
  pick true n = refl
  pick false n = refl

pub plain_look : (bytes : List ℕ) (looks : Looks) (a : ℕ) → looks ≡ look (plain_own bytes) looks a
unfolding look
plain_look bytes looks a = refl

written_pick : (e w : Bool) (o n : ℕ) → cond (cond e true w) (Some (cond e n o)) None ≡ cond e (Some n) (cond w (Some o) None)
written_pick true w o n = refl
written_pick false w o n = refl

pub page_set : (p : Page) (a v : ℕ) → a < length p.bytes → a < length p.written → page_own (record { bytes = slice_set p.bytes a v; written = slice_set p.written a true }) ≡ write (page_own p) a v
unfolding page_own write
page_set p a v hb hw = fun_ext (λ q. rw (set_read p.written a true false hw q, set_read p.bytes a v 0 hb q) (written_pick (q == a) (get_or p.written q false) (get_or p.bytes q 0) v))

pub none_set : (n q : ℕ) → get_or (replicate n false) q false ≡ false
none_set zero q = refl
none_set (suc n) zero = refl
none_set (suc n) (suc q) = none_set n q

pub page_blank : (n : ℕ) (p : Page) → p.written ≡ replicate n false → page_own p ≡ (λ q. None)
unfolding page_own
page_blank n p e = fun_ext (λ q. rw (e, none_set n q) refl)

-- Replacing a slot by one with the same written bytes changes no byte.
pub own_same : (slots : List Slot) (i : ℕ) (slot : Slot) → i < length slots → slot_own slot ≡ slot_own (get_or slots i Empty) → own_at (set slots i slot) ≡ own_at slots
unfolding own_at
own_same slots i slot h e = fun_ext (λ q. elim (eqb_tells (q / 256) i) [
  | inl same ↦ rw (set_read slots i slot Empty h (q / 256), same.0) (ap (λ f. f (q % 256)) e ∙ ap (λ k. slot_own (get_or slots k Empty) (q % 256)) (sym same.1))
  | inr other ↦ rw (set_read slots i slot Empty h (q / 256), other.0) refl
])

-- An address by its page and its index in the page.
apart : (q a : ℕ) → q / 256 ≢ a / 256 → eqb q a ≡ false
apart q a h = elim (eqb_tells q a) [ inl same ↦ absurd (h (ap (λ n. n / 256) same.1)) | inr other ↦ other.0 ]

pub together : (q a : ℕ) → q / 256 ≡ a / 256 → eqb (q % 256) (a % 256) ≡ eqb q a
together q a h = elim (eqb_tells (q % 256) (a % 256)) [
  | inl same ↦ same.0 ∙ sym (eq-eqb q a (let e : q % 256 ≡ a % 256 = same.1 in omega arith))
  | inr other ↦ other.0 ∙ sym (elim (eqb_tells q a) [ inl equal ↦ absurd (other.1 (ap (λ n. n % 256) equal.1)) | inr far ↦ far.0 ])
]

-- Replacing a slot by one after a write writes the cell.
pub own_write : (slots : List Slot) (a v : ℕ) (slot : Slot) → a / 256 < length slots → slot_own slot ≡ write (slot_own (get_or slots (a / 256) Empty)) (a % 256) v → own_at (set slots (a / 256) slot) ≡ write (own_at slots) a v
unfolding own_at write
own_write slots a v slot h e = fun_ext (λ q. elim (eqb_tells (q / 256) (a / 256)) [
  | inl same ↦ rw (set_read slots (a / 256) slot Empty h (q / 256), same.0)
      (ap (λ f. f (q % 256)) e ∙ ap (λ b. cond b (Some v) (slot_own (get_or slots (a / 256) Empty) (q % 256))) (together q a same.1)
      ∙ ap (λ k. cond (eqb q a) (Some v) (slot_own (get_or slots k Empty) (q % 256))) (sym same.1))
  | inr other ↦ rw (set_read slots (a / 256) slot Empty h (q / 256), other.0, apart q a other.1) refl
])

-- Replacing a slot by one that is owned if the old one was keeps ready cells ready.
pub ready_kept : (slots : List Slot) (i : ℕ) (slot : Slot) → i < length slots → (IsTrue (is_owned (get_or slots i Empty)) → IsTrue (is_owned slot)) → (q : ℕ) → IsTrue (ready_at slots q) → IsTrue (ready_at (set slots i slot) q)
ready_kept slots i slot h keep q r = elim (eqb_tells (q / 256) i) [
  | inl same ↦ rw (set_read slots i slot Empty h (q / 256), same.0) (keep (subst (λ (k : ℕ). IsTrue (is_owned (get_or slots k Empty))) same.1 r))
  | inr other ↦ rw (set_read slots i slot Empty h (q / 256), other.0) r
]

-- Replacing a slot by itself changes nothing.
pub ready_same : (slots : List Slot) (i : ℕ) (slot : Slot) → slot ≡ get_or slots i Empty → ready_at (set slots i slot) ≡ ready_at slots
ready_same slots i slot e = ap ready_at (ap (set slots i) e ∙ set-get_or slots i Empty)

-- A read of a written cell is no look; a read of another cell adds one.
pub look_written : (own : Own) (looks : Looks) (a : ℕ) → is_some (own a) ≡ true → looks ≡ look own looks a
unfolding look
look_written own looks a w = rw w refl

pub look_unwritten : (own : Own) (looks : Looks) (a : ℕ) → is_some (own a) ≡ false → cond (is_among a looks) looks (looks ++ a ∷ []) ≡ look own looks a
unfolding look
look_unwritten own looks a w = rw w refl

empty_set : (n q : ℕ) → get_or (replicate n Empty) q Empty ≡ Empty
empty_set zero q = refl
empty_set (suc n) zero = refl
empty_set (suc n) (suc q) = empty_set n q

-- Empty slots have no written bytes.
pub own_blank : (n : ℕ) (slots : List Slot) → slots ≡ replicate n Empty → own_at slots ≡ (λ q. None)
unfolding own_at
own_blank n slots e = fun_ext (λ q. rw (e, empty_set n (q / 256)) refl)

pub replicate-suc : (n : ℕ) → replicate n Empty ++ Empty ∷ [] ≡ replicate (n + 1) Empty
replicate-suc zero = refl
replicate-suc (suc n) = simp unary_clauses (ap (λ (t : List Slot). Empty ∷ t) (replicate-suc n ∙ ap (λ k. replicate k Empty) (add-one n)))

pub more_empty : (n : ℕ) (slots : List Slot) → slots ≡ replicate n Empty → slots ++ Empty ∷ [] ≡ replicate (n + 1) Empty
more_empty n slots e = rw e (replicate-suc n)

-- If the slots of two lists have the same written bytes, so have the lists.
pub own_alike : (n : ℕ) (xs ys : List Slot) → length xs ≡ n → length ys ≡ n → SameOwn n xs ys → own_at xs ≡ own_at ys
unfolding own_at
own_alike n xs ys e f same = fun_ext (λ q. elim (leb_tells n (q / 256)) [
  | inl past ↦ rw (get_or_past xs (q / 256) Empty (let h : n ≤ q / 256 = past.1 in omega arith), get_or_past ys (q / 256) Empty (let h : n ≤ q / 256 = past.1 in omega arith)) refl
  | inr within ↦ ap (λ (g : ℕ → Option ℕ). g (q % 256)) (same (q / 256) within.1)
])

-- If the slots of two lists are owned alike, the same cells are ready.
pub ready_alike : (n : ℕ) (xs ys : List Slot) → length xs ≡ n → length ys ≡ n → SameOwned n xs ys → (q : ℕ) → ready_at xs q ≡ ready_at ys q
ready_alike n xs ys e f same q = elim (leb_tells n (q / 256)) [
  | inl past ↦ rw (get_or_past xs (q / 256) Empty (let h : n ≤ q / 256 = past.1 in omega arith), get_or_past ys (q / 256) Empty (let h : n ≤ q / 256 = past.1 in omega arith)) refl
  | inr within ↦ same (q / 256) within.1
]

-- Replacing a slot by one that is not owned leaves each slot unowned that was so.
pub shared_kept : (slots : List Slot) (i : ℕ) (slot : Slot) → i < length slots → is_owned slot ≡ false → (j : ℕ) → is_owned (get_or slots j Empty) ≡ false → is_owned (get_or (set slots i slot) j Empty) ≡ false
shared_kept slots i slot h e j r = elim (eqb_tells j i) [
  | inl same ↦ rw (set_read slots i slot Empty h j, same.0) e
  | inr other ↦ rw (set_read slots i slot Empty h j, other.0) r
]

-- The laws for a slot whose page is made owned.
pub ruleset one_slot_owned = (own_same, ready_kept, ready_same)
