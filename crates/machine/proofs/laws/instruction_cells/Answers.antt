use Rattle.machine.proofs.InstructionCells.{instruction_cells}
use Rattle.machine.proofs.laws.instruction_cells.Goals as goal

pub returns : goal.returns
returns c = instruction_cells
