-- Ranges of cells. (This project's profile.)
use Rattle.std.specs.Prelude.{◌≡◌, ℕ, ◌&&◌, Bool, true, false, List, nat_le, Option, Some, None}
use Rattle.std.specs.List.{list_any}
use Rattle.accesses.specs.declared.ranges.CellRange.{CellRange}

abbrev pub is_in_range : CellRange → ℕ → Bool
is_in_range r a = nat_le r.first a && nat_le a r.last

-- Whether the list has a cell of the range, if there is a range.
abbrev pub passes_cells : Option CellRange → List ℕ → Bool
passes_cells None cells = true
passes_cells (Some r) cells = list_any (is_in_range r) cells

-- Whether a cell of the range has a property.
pub record Finds (has : ℕ → Bool) (range : CellRange) (found : Bool) : Type 0 where
  pub some : found ≡ true → (a : ℕ) × (is_in_range range a ≡ true) × (has a ≡ true)
  pub none : found ≡ false → (a : ℕ) → is_in_range range a ≡ true → has a ≡ false
