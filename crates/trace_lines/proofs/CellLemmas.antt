-- The cells that an instruction writes and reads are those of its operation.
use Rattle.std.proofs.Common.{◌≡◌, ℕ, suc, true, ◌∷◌, map, Option, Some, None, unwrap_or, refl, ap, ◌∙◌, arith}
use Rattle.std.proofs.lemmas.Bool.{ltb-true}
use Rattle.i8080.specs.declared.opcode.Op.{Op}
use Rattle.i8080.specs.declared.opcode.Op.TheVariants.{Nop}
use Rattle.i8080.specs.declared.registers.Regs.{Regs}
use Rattle.i8080.specs.Instruction.{decided, instruction, operation}
use Rattle.i8080.specs.Opcodes.{decoded}
use Rattle.i8080.specs.Operands.{byte_count, operand_count}
use Rattle.i8080.specs.Performs.{writes_of}
use Rattle.i8080.specs.Reading.{asked, end_of}
use Rattle.machine.proofs.InstructionCells.{cells_of_reads, cells_of_writes}
use Rattle.machine.specs.Inputs.{Session}
use Rattle.machine.specs.PlainState.{PlainState}
use Rattle.machine.specs.Accesses.{read_cells, written_cells}
use Rattle.trace_lines.specs.Rows.{operation_at}
use Rattle.trace_lines.specs.StepLines.{cell_in}
use Rattle.machine.specs.Step.{is_instruction}

-- An undefined byte is like NOP.
module _ (byte : ℕ) (r : Regs) (bytes : ℕ → ℕ) where
  same_writes : (o : Option Op) → map (λ c. c.0) (writes_of (end_of (decided byte o r) bytes)) ≡ map (λ c. c.0) (writes_of (end_of (operation (unwrap_or o Nop) r) bytes))
  same_writes None = refl
  same_writes (Some op) = refl

  same_asked : (o : Option Op) → asked (decided byte o r) bytes ≡ asked (operation (unwrap_or o Nop) r) bytes
  same_asked None = refl
  same_asked (Some op) = refl

pub same_count : (o : Option Op) → byte_count o ≡ suc (operand_count (unwrap_or o Nop))
same_count None = refl
same_count (Some op) = omega arith

module _ (s : Session) (w : PlainState) (is : is_instruction w.core ≡ true) where
  pub written_is : written_cells s w ≡ map (λ c. c.0) (writes_of (end_of (operation (operation_at w) w.core.regs) (cell_in w)))
  unfolding instruction
  written_is = cells_of_writes s w (ltb-true _ _ is) ∙ same_writes (cell_in w w.core.regs.pc) w.core.regs (cell_in w) (decoded (cell_in w w.core.regs.pc))

  pub read_is : read_cells s w ≡ w.core.regs.pc ∷ asked (operation (operation_at w) w.core.regs) (cell_in w)
  unfolding instruction
  read_is = cells_of_reads s w (ltb-true _ _ is) ∙ ap (λ cells. w.core.regs.pc ∷ cells) (same_asked (cell_in w w.core.regs.pc) w.core.regs (cell_in w) (decoded (cell_in w w.core.regs.pc)))
