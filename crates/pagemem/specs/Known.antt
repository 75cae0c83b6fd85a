-- What contracts see of known cells. (This project's own.)
use Rattle.std.specs.Prelude.{ℕ, ◌<◌, Bool, false, ◌&&◌, nat_lt, List, length, get_or, slice_index}
use Rattle.i8080.specs.Memory.{Memory, Own, Looks, is_among}
use Rattle.i8080.specs.Opcodes.{decoded}
use Rattle.i8080.specs.Operands.{byte_count}
use Rattle.i8080.specs.Registers.{onward}
use Rattle.i8080.specs.declared.access.TheConstants.{HLT}
use Rattle.pagemem.specs.Learned.{AreKnown}
use Rattle.pagemem.specs.Pages.{IsLaid}
use Rattle.pagemem.specs.declared.known.Known.{Known}

-- Whether a cell is known.
abbrev pub is_known : Known → ℕ → Bool
is_known k q = get_or k.marks.items q false

-- Whether a byte of an instruction may be read without a test: its cell is known, and is not the last one, which 0000H follows.
abbrev pub is_readable : Known → ℕ → Bool
is_readable k q = is_known k q && nat_lt q 65535

-- The byte that is kept for a cell.
abbrev pub byte_in : Known → ℕ → ℕ
byte_in k q = slice_index k.bytes.items q

-- Each byte of the instruction that begins at a cell is known.
abbrev pub IsWholeAt : Known → ℕ → Type 0
IsWholeAt k q = AreKnown (is_known k) q (byte_count (decoded (byte_in k q)))

-- The learned opcode of a cell, or HLT if it has none.
abbrev pub opcode_in : Known → ℕ → ℕ
opcode_in k q = get_or k.opcodes.items q HLT

-- A read of this cell returns this byte and adds no look, because the cell was written or looked at.
abbrev pub IsKnownCell : Own → (ℕ → ℕ) → Looks → ℕ → ℕ → Type 0
IsKnownCell own beneath looks q byte = IsLaid (own q) (beneath q) (is_among q looks) byte

-- These are the bytes of consecutive known cells, starting at `at`; the cell after 0FFFFH is 0000H.
abbrev pub AreKnownCells : Memory → ℕ → List ℕ → Type 0
AreKnownCells m at cells = (i : ℕ) → i < length cells → IsKnownCell m.own m.beneath m.looks (onward at i) (slice_index cells i)
