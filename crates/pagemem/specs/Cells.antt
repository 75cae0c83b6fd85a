-- What contracts see of written cells. (This project's own.)
use Rattle.std.specs.Prelude.{ℕ, Bool}
use Rattle.i8080.specs.Memory.{Own}
use Rattle.pagemem.specs.declared.cells.Cells.{Cells}
use Rattle.pagemem.specs.Pages.{own_at, ready_at}

-- The byte last written to each cell, if any.
abbrev pub own_in : Cells → Own
own_in c = own_at c.slots.items

-- Whether a cell may be written.
abbrev pub is_ready_in : Cells → ℕ → Bool
is_ready_in c = ready_at c.slots.items
