-- Cells in a row. (This project's own.)
use Rattle.std.specs.Prelude.{ℕ, zero, suc, List, [], ◌∷◌, unwrap_or}
use Rattle.i8080.specs.Opcodes.{decoded}
use Rattle.i8080.specs.Registers.{onward, word}
use Rattle.i8080.specs.declared.opcode.Op.{Op}
use Rattle.i8080.specs.declared.opcode.Op.TheVariants.{Nop}
use Rattle.i8080.specs.declared.registers.Regs.{Regs}
use Rattle.machine.specs.PlainState.{PlainState}
use Rattle.trace_lines.specs.StepLines.{cell_in}

-- The addresses of cells in a row; the cell after 0FFFFH is 0000H.
abbrev pub row : ℕ → ℕ → List ℕ
row at zero = []
row at (suc n) = at ∷ row (onward at 1) n

-- The operation at PC, and the word after its opcode. An undefined byte has the cells of NOP: its own.
abbrev pub operation_at : PlainState → Op
operation_at w = unwrap_or (decoded (cell_in w w.core.regs.pc)) Nop

abbrev pub operand_in : (ℕ → ℕ) → Regs → ℕ
operand_in byte r = word (byte (onward r.pc 1)) (byte (onward (onward r.pc 1) 1))
