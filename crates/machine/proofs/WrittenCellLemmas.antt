-- The written cells of pages, as a finite map and as a function of the address.
use Rattle.std.proofs.Common.{rules, inl, inr, ◌≡◌, ℕ, zero, suc, ◌<◌, ◌≤◌, ◌≢◌, Option, Some, None, refl, sym, ◌∙◌, ap, arith, cond, eqb, List, [], ◌∷◌, nat_lt, true, false, length, ◌/◌, ◌%◌}
use Rattle.std.proofs.lemmas.Bool.Decides.{eqb_tells, leb_tells}
use Rattle.std.proofs.lemmas.Cmp.{nat_cmp_total}
use Rattle.std.proofs.lemmas.List.{get_or_past}
use Rattle.std.specs.Cmp.{unsigned_tied}
use Rattle.std.specs.Ordering.{nat_cmp}
use Rattle.std.specs.FinMap as map
use Rattle.i8080.specs.Memory.{write, write_all}
use Rattle.pagemem.specs.Pages as pages
use Rattle.pagemem.specs.declared.page.Slot.{Slot}
use Rattle.pagemem.specs.declared.page.Slot.TheVariants.{Empty}
use Rattle.machine.specs.StateView.{OwnCells}
use Rattle.machine.specs.Machine.{with_cell, with_cells}
use Rattle.machine.specs.CellCount.{cell_count, cell_count-is}
use Rattle.machine.specs.WrittenCells.{written_cells, written_below, with_cell_if_any}

pub get_insert : (m : OwnCells) (a v q : ℕ) → map.get (map.insert m a v) q ≡ cond (eqb q a) (Some v) (map.get m q)
get_insert m a v q = map.get-insert nat_cmp_total m a v q ∙ ap (λ b. cond b (Some v) (map.get m q)) (unsigned_tied q a)

entry_same : (m : OwnCells) (a : ℕ) (o : Option ℕ) → map.get m a ≡ None → map.get (with_cell_if_any m a o) a ≡ o
entry_same m a None h = h
entry_same m a (Some v) h = elim (eqb_tells a a) [ inl same ↦ get_insert m a v a ∙ rw same.0 refl | inr other ↦ absurd (other.1 refl) ]

entry_other : (m : OwnCells) (a : ℕ) (o : Option ℕ) (q : ℕ) → q ≢ a → map.get (with_cell_if_any m a o) q ≡ map.get m q
entry_other m a None q h = refl
entry_other m a (Some v) q h = elim (eqb_tells q a) [ inl same ↦ absurd (h same.1) | inr other ↦ get_insert m a v q ∙ rw other.0 refl ]

past : (n : ℕ) (own : ℕ → Option ℕ) (q : ℕ) → n ≤ q → map.get (written_below n own) q ≡ None
past zero own q h = map.get-empty nat_cmp q
past (suc n) own q h = entry_other _ n (own n) q (λ e. let f : q ≡ n = e in omega arith) ∙ past n own q (omega arith)

within : (n : ℕ) (own : ℕ → Option ℕ) (q : ℕ) → q < n → map.get (written_below n own) q ≡ own q
within zero own q h = absurd (omega arith)
within (suc n) own q h = elim (eqb_tells q n) [
  | inl same ↦ rw same.1 (entry_same (written_below n own) n (own n) (past n own n (omega arith)))
  | inr other ↦ entry_other _ n (own n) q other.1 ∙ within n own q (let far : q ≢ n = other.1 in omega arith)
]

-- Nothing is written past the last cell.
abbrev pub InCells : (ℕ → Option ℕ) → Type 0
InCells own = (q : ℕ) → 65536 ≤ q → own q ≡ None

pub get_written : (own : ℕ → Option ℕ) → InCells own → (q : ℕ) → map.get (written_cells own) q ≡ own q
unfolding written_cells
get_written own h q = elim (leb_tells cell_count q) [
  | inl over ↦ past cell_count own q over.1 ∙ sym (h q (rw (← cell_count-is) over.1))
  | inr under ↦ within cell_count own q under.1
]

pub cells_are : (own : ℕ → Option ℕ) (m : OwnCells) → InCells own → ((q : ℕ) → map.get m q ≡ own q) → written_cells own ≡ m
cells_are own m h same = map.same_map nat_cmp_total map.nat_cmp-IsAntisymmetric _ _ (λ q. get_written own h q ∙ sym (same q))

pub cells_none : (own : ℕ → Option ℕ) → own ≡ (λ _. None) → written_cells own ≡ map.empty
cells_none own e = cells_are own map.empty (λ q h. ap (λ (f : ℕ → Option ℕ). f q) e) (λ q. map.get-empty nat_cmp q ∙ sym (ap (λ (f : ℕ → Option ℕ). f q) e))

-- A byte is stored exactly at addresses below 65,536.
not_below : (a : ℕ) → 65536 ≤ a → nat_lt a 65536 ≡ false
not_below a p = search (rules)

below : (a : ℕ) → a < 65536 → nat_lt a 65536 ≡ true
below a p = search (rules)

-- Below 65,536, a cell has the byte that was stored there, and any other cell is unchanged.
pub get_stored : (m : OwnCells) (a v q : ℕ) → q < 65536 → map.get (with_cell m a v) q ≡ cond (eqb q a) (Some v) (map.get m q)
get_stored m a v q h = elim (leb_tells 65536 a) [
  | inl over ↦ far (let p : 65536 ≤ a = over.1 in p)
  | inr under ↦ near (let p : a < 65536 = under.1 in p)
] where
  far : 65536 ≤ a → map.get (with_cell m a v) q ≡ cond (eqb q a) (Some v) (map.get m q)
  far p = elim (eqb_tells q a) [
    | inl same ↦ absurd (let e : q ≡ a = same.1 in omega arith)
    | inr other ↦ rw (not_below a p, other.0) refl
  ]

  near : a < 65536 → map.get (with_cell m a v) q ≡ cond (eqb q a) (Some v) (map.get m q)
  near p = rw (below a p) (get_insert m a v q)

-- Nothing is stored past the last cell.
pub stored_past : (m : OwnCells) (a v q : ℕ) → 65536 ≤ q → map.get m q ≡ None → map.get (with_cell m a v) q ≡ None
stored_past m a v q h e = elim (leb_tells 65536 a) [
  | inl over ↦ rw (not_below a over.1) e
  | inr under ↦ let p : a < 65536 = under.1 in rw (below a p) (get_insert m a v q ∙ rw (unlike p) e)
] where
  unlike : a < 65536 → eqb q a ≡ false
  unlike p = elim (eqb_tells q a) [ inl same ↦ absurd (let e : q ≡ a = same.1 in omega arith) | inr other ↦ other.0 ]

pub stored_all_past : (ws : List (ℕ × ℕ)) (m : OwnCells) (q : ℕ) → 65536 ≤ q → map.get m q ≡ None → map.get (with_cells m ws) q ≡ None
stored_all_past [] m q h e = e
stored_all_past (w ∷ ws) m q h e = stored_all_past ws (with_cell m w.0 w.1) q h (stored_past m w.0 w.1 q h e)

get_stored_all : (ws : List (ℕ × ℕ)) (m : OwnCells) (own : ℕ → Option ℕ) (q : ℕ) → q < 65536 → map.get m q ≡ own q → map.get (with_cells m ws) q ≡ write_all own ws q
unfolding write
get_stored_all [] m own q h e = e
get_stored_all (w ∷ ws) m own q h e = get_stored_all ws (with_cell m w.0 w.1) (write own w.0 w.1) q h (get_stored m w.0 w.1 q h ∙ ap (λ r. cond (eqb q w.0) (Some w.1) r) e)

-- After the writes, the written cells are the old ones with the writes applied.
pub cells_written : (own own' : ℕ → Option ℕ) (ws : List (ℕ × ℕ)) → InCells own → InCells own' → own' ≡ write_all own ws → written_cells own' ≡ with_cells (written_cells own) ws
cells_written own own' ws h h' e = cells_are own' (with_cells (written_cells own) ws) h' (λ q. elim (leb_tells 65536 q) [
  | inl over ↦ stored_all_past ws (written_cells own) q over.1 (get_written own h q ∙ h q over.1) ∙ sym (h' q over.1)
  | inr under ↦ get_stored_all ws (written_cells own) own q under.1 (get_written own h q) ∙ ap (λ (f : ℕ → Option ℕ). f q) (sym e)
])

-- 256 slots have at most 65,536 cells.
pub in_cells : (slots : List Slot) → length slots ≡ 256 → InCells (pages.own_at slots)
unfolding pages.own_at
in_cells slots e q h = ap (λ (t : Slot). pages.slot_own t (q % 256)) (get_or_past slots (q / 256) Empty (omega arith))
