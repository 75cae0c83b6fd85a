-- Whether a run looks for the BIOS. A program that takes an entry out of the BIOS's jump table, which is from FF00H on, finds zeros there.
-- (CP/M 2.2 Alteration Guide, section 6, the jump vector; that it is empty except for the warm start is this project's profile.)
use Rattle.std.specs.Prelude.{◌&&◌, ◌||◌, ◌+◌, ℕ, zero, suc, Bool, if◌then◌else◌, is_some, nat_lt, Option, Some, None}
use Rattle.dependencies.specs.Dependencies.{first_asked}
use Rattle.first_looks.specs.declared.question.Question.TheVariants.{Cell}
use Rattle.machine.specs.Inputs.{Session}

-- The first of n numbers, from one on, of which this holds.
unfoldable pub first_from : (ℕ → Bool) → ℕ → ℕ → Option ℕ
first_from is at zero = None
first_from is at (suc n) = if is at then Some at else first_from is (at + 1) n

-- Whether the run looks at this cell of the table, which is none of the warm start's, FF03H to FF05H.
abbrev pub is_bios_look : Session → ℕ → Bool
is_bios_look s cell = (nat_lt cell 65283 || nat_lt 65285 cell) && is_some (first_asked s (Cell cell))

-- The first cell of the table, FF00H to FFFFH, at which the run looks.
abbrev pub bios_look : Session → Option ℕ
bios_look s = first_from (is_bios_look s) 65280 256
