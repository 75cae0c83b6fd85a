-- Page zero with a command tail. ([Interface Guide 1979, page zero]; the addresses of the system, and what its first bytes hold
-- when a program is loaded: this project's profile.)
use Rattle.std.specs.Prelude.{ℕ, ◌+◌, ◌-◌, List, [], ◌∷◌, ◌++◌, length, map, take, drop, replicate}
use Rattle.std.specs.Char.{to_ascii_uppercase}
use Rattle.command_tail.specs.Words.{first_word, second_word, drive_and_name}

-- A list with bytes written over it from an index on.
abbrev pub with_bytes_at : List ℕ → ℕ → List ℕ → List ℕ
with_bytes_at cells at bytes = take at cells ++ (bytes ++ drop (at + length bytes) cells)

-- The cells from 0080H on: 0 for no tail; else the length plus one, a blank and the tail.
abbrev pub tail_cells : List ℕ → List ℕ
tail_cells [] = replicate 128 0
tail_cells (b ∷ bs) = (length (b ∷ bs) + 1) ∷ 32 ∷ b ∷ bs ++ replicate (126 - length (b ∷ bs)) 0

-- At 0000H the jump to the warm start, then the I/O byte and the drive, at 0005H the jump to the BDOS, at 005CH and 006CH the drive
-- and the name in the first and the second word, at 0080H the tail; every other cell is 0.
unfoldable pub page_with_tail : List ℕ → List ℕ
page_with_tail tail =
    (0xc3 ∷ 0x03 ∷ 0xff ∷ 0 ∷ 0 ∷ 0xc3 ∷ 0x06 ∷ 0xfe ∷ [])
    ++ replicate 84 0 ++ drive_and_name (first_word tail) ++ replicate 4 0 ++ drive_and_name (second_word tail) ++ replicate 8 0 ++ tail_cells tail

-- Page zero with a tail whose letters are converted to upper case first.
abbrev pub page_zero : List ℕ → List ℕ
page_zero tail = page_with_tail (map to_ascii_uppercase tail)
