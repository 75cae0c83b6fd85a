use Rattle.std.proofs.Common.{◌≡◌, ◌∙◌, ◌∷◌, ◌++◌, ap, suc, sym}
use Rattle.i8080.specs.Opcodes.{decoded}
use Rattle.i8080.specs.Operands.{byte_count, operand_count}
use Rattle.machine.specs.Regs.{Regs}
use Rattle.machine.specs.Runs.{state_of}
use Rattle.trace_lines.proofs.CellLemmas.{read_is, same_count}
use Rattle.trace_lines.specs.Rows.{operation_at, row}
use Rattle.trace_lines.specs.StepLines.{cell_in}
use Rattle.trace_lines.proofs.cell_rows.read_rows.Goals as goal

pub returns : goal.returns
returns c = λ is.
    let w = state_of c.args.run.now in
    let at : c.new-own.result.at ≡ w.core.regs.pc = c.new-own.ensures.at ∙ ap (λ (r : Regs). r.pc) c.regs-regs.ensures in
    let opcode = c.byte.ensures ∙ ap (λ (r : Regs). cell_in w r.pc) c.regs-regs.ensures in
    let count : c.new-own.result.count ≡ suc (operand_count (operation_at w)) =
    c.new-own.ensures.count ∙ c.byte_count.ensures.count ∙ ap (λ b. byte_count (decoded b)) opcode ∙ same_count (decoded (cell_in w w.core.regs.pc)) in
    read_is c.args.run.now.session w is
    ∙ ap (λ cells. w.core.regs.pc ∷ cells) ((rw (c.operation_at.ensures, c.regs-regs.ensures) at c.read_by.ensures) (cell_in w) c.operand_at.ensures)
    ∙ sym (λ j. row (at j) (count j) ++ row c.read_by.result.at c.read_by.result.count)
