-- How an instruction ends. (This project's own.)
use Rattle.std.specs.Prelude.{ℕ, List, [], ◌∷◌}
use Rattle.i8080.specs.declared.registers.Regs.{Regs}
use Rattle.i8080.specs.Registers.{onward}

-- An instruction was executed, with these registers after it and these writes; or it stopped the run and changed nothing:
-- HLT, or a byte that is the opcode of no instruction.
pub data End : Type 0 where
  Went : Regs → List (ℕ × ℕ) → End
  Halt : End
  Undefined : ℕ → End

-- The writes of bytes to the cells from an address on.
abbrev pub cells_from : ℕ → List ℕ → List (ℕ × ℕ)
cells_from at [] = []
cells_from at (byte ∷ rest) = (at, byte) ∷ cells_from (onward at 1) rest
