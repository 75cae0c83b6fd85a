-- Writes to consecutive cells.
use Rattle.std.proofs.Common.{◌≡◌, ◌≢◌, ℕ, ◌<◌, ◌≤◌, ◌+◌, ◌/◌, ◌%◌, ◌⊎◌, inl, inr, Bool, false, cond, List, length, get_or, set, Option, Some, refl, sym, ◌∙◌, ap, subst, arith, ◌∷◌, [], zero, suc, take, drop, slice_index}
use Rattle.std.proofs.Math.Path.{fun_ext}
use Rattle.std.proofs.lemmas.Bool.Decides.{eqb_tells}
use Rattle.std.proofs.lemmas.Bool.{cases_lt}
use Rattle.std.proofs.Common.{◌==◌}
use Rattle.i8080.specs.Memory.{Own, write, write_all}
use Rattle.i8080.specs.Registers.{onward}
use Rattle.i8080.specs.End.{cells_from}
use Rattle.pagemem.specs.Pages.{slot_own, own_at, IsLaid}
use Rattle.pagemem.specs.declared.page.Slot.{Slot}
use Rattle.pagemem.specs.declared.page.Slot.TheVariants.{Empty}
use Rattle.pagemem.proofs.Laws.{set_read, together}

other_cell : (own : Own) (a v q : ℕ) → q ≢ a → write own a v q ≡ own q
unfolding write
other_cell own a v q ne = elim (eqb_tells q a) [ inl same ↦ absurd (ne same.1) | inr other ↦ rw other.0 refl ]

-- A cell outside them is unchanged.
pub outside : (own : Own) (a : ℕ) (values : List ℕ) (q : ℕ) → a + length values ≤ 65536 → (q < a) ⊎ (a + length values ≤ q) → write_all own (cells_from a values) q ≡ own q
outside own a [] q fits out = refl
outside own a (v ∷ []) q fits out = other_cell own a v q (λ e. elim out [ inl low ↦ omega (arith, e, low) | inr high ↦ omega (arith, e, high) ])
outside own a (v ∷ w ∷ rest) q fits out =
    let next : onward a 1 ≡ a + 1 = omega (arith, fits) in
    ap (λ n. write_all (write own a v) (cells_from n (w ∷ rest)) q) next
    ∙ outside (write own a v) (a + 1) (w ∷ rest) q (omega (arith, fits)) (elim out [ inl low ↦ inl (omega (arith, low)) | inr high ↦ inr (omega (arith, high)) ])
    ∙ other_cell own a v q (λ e. elim out [ inl low ↦ omega (arith, e, low) | inr high ↦ omega (arith, e, high) ])

-- The first of them is written.
first_written : (own : Own) (a v : ℕ) (rest : List ℕ) → a + suc (length rest) ≤ 65536 → write_all own (cells_from a (v ∷ rest)) a ≡ Some v
unfolding write
first_written own a v [] fits = elim (eqb_tells a a) [ inl same ↦ rw same.0 refl | inr other ↦ absurd (other.1 refl) ]
first_written own a v (w ∷ rest) fits =
    let next : onward a 1 ≡ a + 1 = omega (arith, fits) in
    ap (λ n. write_all (write own a v) (cells_from n (w ∷ rest)) a) next ∙ outside (write own a v) (a + 1) (w ∷ rest) a (omega (arith, fits)) (inl (omega arith))
    ∙ (elim (eqb_tells a a) [ inl same ↦ rw same.0 refl | inr other ↦ absurd (other.1 refl) ])

-- Each of them is written.
pub each_written : (own : Own) (a : ℕ) (values : List ℕ) (j : ℕ) → a + length values ≤ 65536 → j < length values → write_all own (cells_from a values) (a + j) ≡ Some (slice_index values j)
each_written own a [] j fits h = absurd (omega (arith, h))
each_written own a (v ∷ rest) zero fits h = ap (write_all own (cells_from a (v ∷ rest))) (let e : a + 0 ≡ a = omega arith in e) ∙ first_written own a v rest (omega (arith, fits))
each_written own a (v ∷ []) (suc j) fits h = absurd (omega (arith, h))
each_written own a (v ∷ w ∷ rest) (suc j) fits h =
    let next : onward a 1 ≡ a + 1 = omega (arith, fits) in
    ap (λ n. write_all (write own a v) (cells_from n (w ∷ rest)) (a + suc j)) next ∙ ap (write_all (write own a v) (cells_from (a + 1) (w ∷ rest))) (let e : a + suc j ≡ a + 1 + j = omega arith in e)
    ∙ each_written (write own a v) (a + 1) (w ∷ rest) j (omega (arith, fits)) (omega (arith, h))

-- A write to a cell is the same in its page as in the whole memory.
one_written : (own' own : Own) (a v q : ℕ) → q / 256 ≡ a / 256 → own' (q % 256) ≡ own q → write own' (a % 256) v (q % 256) ≡ write own a v q
unfolding write
one_written own' own a v q page same = ap (λ b. cond b (Some v) (own' (q % 256))) (together q a page) ∙ ap (cond (q == a) (Some v)) same

-- Several writes in one page are the same in the page as in the whole memory.
inside : (own' own : Own) (a : ℕ) (values : List ℕ) (q : ℕ) → a % 256 + length values ≤ 256 → a < 65536 → q / 256 ≡ a / 256 → own' (q % 256) ≡ own q
    → write_all own' (cells_from (a % 256) values) (q % 256) ≡ write_all own (cells_from a values) q
inside own' own a [] q fits low page same = same
inside own' own a (v ∷ []) q fits low page same = one_written own' own a v q page same
inside own' own a (v ∷ w ∷ rest) q fits low page same =
    let next : onward a 1 ≡ a + 1 = omega (arith, fits, low) in
    let next' : onward (a % 256) 1 ≡ (a + 1) % 256 = omega (arith, fits, low) in
    ap (λ n. write_all (write own' (a % 256) v) (cells_from n (w ∷ rest)) (q % 256)) next'
    ∙ inside (write own' (a % 256) v) (write own a v) (a + 1) (w ∷ rest) q (omega (arith, fits)) (omega (arith, fits, low)) (page ∙ (let e : a / 256 ≡ (a + 1) / 256 = omega (arith, fits) in e)) (one_written own' own a v q page same)
    ∙ ap (λ n. write_all (write own a v) (cells_from n (w ∷ rest)) q) (sym next)

-- Replacing a slot by one after writes within its page writes these cells.
pub own_write_all : (slots : List Slot) (a : ℕ) (values : List ℕ) (slot : Slot) → a / 256 < length slots → a < 65536 → a % 256 + length values ≤ 256
    → slot_own slot ≡ write_all (slot_own (get_or slots (a / 256) Empty)) (cells_from (a % 256) values) → own_at (set slots (a / 256) slot) ≡ write_all (own_at slots) (cells_from a values)
unfolding own_at
own_write_all slots a values slot h low fits e = fun_ext (λ q. elim (eqb_tells (q / 256) (a / 256)) [
  | inl same ↦ rw (set_read slots (a / 256) slot Empty h (q / 256), same.0)
      (ap (λ (f : Own). f (q % 256)) e
      ∙ inside (slot_own (get_or slots (a / 256) Empty)) (λ n. slot_own (get_or slots (n / 256) Empty) (n % 256)) a values q fits low same.1 (ap (λ k. slot_own (get_or slots k Empty) (q % 256)) (sym same.1)))
  | inr other ↦ rw (set_read slots (a / 256) slot Empty h (q / 256), other.0)
      (sym (outside (λ n. slot_own (get_or slots (n / 256) Empty) (n % 256)) a values q (omega (arith, fits, low)) (beside q other.1)))
]) where
  beside : (q : ℕ) → q / 256 ≢ a / 256 → (q < a) ⊎ (a + length values ≤ q)
  beside q ne = elim (cases_lt q a) [ inl below ↦ inl below | inr above ↦ inr (omega (arith, ne, above, fits)) ]

-- Writing all values is the same as writing the first n and then the rest.
pub write_split : (own : Own) (a n : ℕ) (values : List ℕ) → a < 65536 → n ≤ length values → write_all own (cells_from a values) ≡ write_all (write_all own (cells_from a (take n values))) (cells_from (onward a n) (drop n values))
write_split own a zero values low within = ap (λ k. write_all own (cells_from k values)) (let e : a ≡ onward a 0 = omega (arith, low) in e)
write_split own a (suc n) [] low within = absurd (omega (arith, within))
write_split own a (suc n) (v ∷ rest) low within =
    write_split (write own a v) (onward a 1) n rest (omega arith) (omega (arith, within))
    ∙ ap (λ k. write_all (write_all (write own a v) (cells_from (onward a 1) (take n rest))) (cells_from k (drop n rest))) (let e : onward (onward a 1) n ≡ onward a (suc n) = omega arith in e)

-- A cell further on in the page.
in_page : (slots : List Slot) (own : Own) (a i : ℕ) → a % 256 + i < 256 → slot_own (get_or slots (a / 256) Empty) ≡ own → own_at slots (a + i) ≡ own (a % 256 + i)
unfolding own_at
in_page slots own a i fits e =
    let page : (a + i) / 256 ≡ a / 256 = omega (arith, fits) in
    let place : (a + i) % 256 ≡ a % 256 + i = omega (arith, fits) in
    ap (λ n. slot_own (get_or slots n Empty) ((a + i) % 256)) page ∙ ap (slot_own (get_or slots (a / 256) Empty)) place ∙ ap (λ (f : Own). f (a % 256 + i)) e

-- What is laid over in a page is laid over in memory.
pub laid_in_page : (slots : List Slot) (own : Own) (a n : ℕ) (beneath cells : List ℕ) (marks : List Bool) → a % 256 + n ≤ 256 → slot_own (get_or slots (a / 256) Empty) ≡ own
    → ((i : ℕ) → i < n → IsLaid (own (a % 256 + i)) (slice_index beneath i) (get_or marks i false) (slice_index cells i))
    → (i : ℕ) → i < n → IsLaid (own_at slots (a + i)) (slice_index beneath i) (get_or marks i false) (slice_index cells i)
laid_in_page slots own a n beneath cells marks fits e w i h =
    subst (λ (o : Option ℕ). IsLaid o (slice_index beneath i) (get_or marks i false) (slice_index cells i)) (sym (in_page slots own a i (omega (arith, h, fits)) e)) (w i h)
