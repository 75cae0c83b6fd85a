-- The image that known cells belong to. (This project's own.)
use Rattle.std.specs.Prelude.{ℕ}
use Rattle.pagemem.specs.ImageParts.{ImageParts, image_with}
use Rattle.pagemem.specs.declared.beneath.Beneath.{Beneath}

-- Its parts.
abbrev pub parts_in : Beneath → ImageParts
parts_in b = record { page_zero = b.page_zero.value; program = b.program.value.items }

-- The byte of each cell.
abbrev pub cells_beneath : Beneath → ℕ → ℕ
cells_beneath b = image_with (parts_in b)
