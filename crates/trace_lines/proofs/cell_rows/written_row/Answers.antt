use Rattle.std.proofs.Common.{◌∙◌}
use Rattle.machine.specs.Runs.{state_of}
use Rattle.trace_lines.proofs.CellLemmas.{written_is}
use Rattle.trace_lines.specs.StepLines.{cell_in}
use Rattle.trace_lines.proofs.cell_rows.written_row.Goals as goal

pub returns-clause-cells : goal.returns-clause-cells
returns-clause-cells c = λ is.
    let w = state_of c.args.run.now in
    written_is c.args.run.now.session w is ∙ (rw (c.operation_at.ensures, c.regs.ensures) at c.written_by.ensures.cells) (cell_in w) c.operand_at.ensures
