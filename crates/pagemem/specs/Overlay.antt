-- What contracts see of an overlay. (This project's own.)
use Rattle.std.specs.Prelude.{ℕ, Bool, None}
use Rattle.i8080.specs.Memory.{Memory, Own, Looks}
use Rattle.pagemem.specs.declared.image.Image.{Image}
use Rattle.pagemem.specs.ImageView.{cells_of}
use Rattle.pagemem.specs.declared.overlay.Overlay.{Overlay}
use Rattle.pagemem.specs.Cells.{own_in, is_ready_in}
use Rattle.pagemem.specs.Known.{is_known, is_readable, opcode_in}
use Rattle.pagemem.specs.Beneath.{parts_in, cells_beneath}
use Rattle.pagemem.specs.ImageParts.{ImageParts}

-- The byte last written to each cell, if any.
abbrev pub own_of : Overlay → Own
own_of o = own_in o.cells

-- The cells that were looked at, in order.
abbrev pub looks_of : Overlay → Looks
looks_of o = o.looks

-- Whether a cell may be written.
abbrev pub is_ready_at : Overlay → ℕ → Bool
is_ready_at o = is_ready_in o.cells

-- Whether a cell is known.
abbrev pub is_known_at : Overlay → ℕ → Bool
is_known_at o = is_known o.known

-- Whether a byte of an instruction may be read without a test.
abbrev pub is_readable_at : Overlay → ℕ → Bool
is_readable_at o = is_readable o.known

-- The learned opcode of a cell, or HLT if it has none.
abbrev pub opcode_at : Overlay → ℕ → ℕ
opcode_at o = opcode_in o.known

-- The parts of the image that the known cells belong to.
abbrev pub parts_beneath : Overlay → ImageParts
parts_beneath o = parts_in o.beneath

-- The byte of each cell of that image.
abbrev pub beneath_of : Overlay → ℕ → ℕ
beneath_of o = cells_beneath o.beneath

-- The memory that these are the parts of, over the image that the known cells belong to.
abbrev pub memory_of : Overlay → Memory
memory_of o = record { own = own_of o; beneath = beneath_of o; looks = looks_of o; lender = None }

-- The same over any image.
abbrev pub memory_over : Image → Overlay → Memory
memory_over image o = record (memory_of o) { beneath = cells_of image }
