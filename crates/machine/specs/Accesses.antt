-- The cells that a step reads and writes. (This project's profile.)
use Rattle.std.specs.Prelude.{◌≡◌, ◌<◌, ℕ, List, [], ◌∷◌, is_some, map, slice_index}
use Rattle.interaction_trees.specs.Tree.{result_of, questions_of}
use Rattle.i8080.specs.Instruction.{instruction}
use Rattle.i8080.specs.Memory.{Looks, Own, is_among}
use Rattle.i8080.specs.Performs.{writes_of}
use Rattle.i8080.specs.Reading.{asked, end_of}
use Rattle.console_calls.specs.StateQuestions.{addresses}
use Rattle.bdos.specs.SystemQuestions.{SystemAnswers, state_questions}
use Rattle.machine.specs.Inputs.{Session}
use Rattle.machine.specs.PlainState.{PlainState, plain_answers}
use Rattle.machine.specs.Step.{system_area, StepEnd, Went, Stopped, next}

-- The answers to what the step that follows a state asks.
abbrev pub answers_in : Session → PlainState → SystemAnswers
answers_in s w = plain_answers w.memory s.script w.files

-- The cells that it writes, in order.
abbrev pub cells_of_end : StepEnd → List ℕ
cells_of_end (Went r spot bytes wrote change) = map (λ c. c.0) wrote.cells
cells_of_end (Stopped cause) = []

abbrev pub written_cells : Session → PlainState → List ℕ
written_cells s w = cells_of_end (result_of (answers_in s w) (next w.core))

-- The cells that it reads, in order.
abbrev pub read_cells : Session → PlainState → List ℕ
read_cells s w = addresses (state_questions (questions_of (answers_in s w) (next w.core)))

-- What they come to for a step that executes an instruction: it writes the cells of its writes, and reads what it asks for, the byte at PC
-- first. So PUSH B with SP at 0001 writes FFFF and 0000, and reads its opcode alone.
pub record InstructionCells : Type 0 where
  pub written : (s : Session) (w : PlainState) → w.core.regs.pc < system_area → written_cells s w ≡ map (λ c. c.0) (writes_of (end_of (instruction w.core.regs) (slice_index w.memory)))
  pub read : (s : Session) (w : PlainState) → w.core.regs.pc < system_area → read_cells s w ≡ asked (instruction w.core.regs) (slice_index w.memory)
  pub push_writes : (s : Session) (w : PlainState) → w.core.regs.pc < system_area → slice_index w.memory w.core.regs.pc ≡ 0xc5 → w.core.regs.sp ≡ 1 → written_cells s w ≡ 0xffff ∷ 0 ∷ []
  pub push_reads : (s : Session) (w : PlainState) → w.core.regs.pc < system_area → slice_index w.memory w.core.regs.pc ≡ 0xc5 → read_cells s w ≡ w.core.regs.pc ∷ []

-- The step writes exactly the cells that are written here, and reads exactly the ones that were looked at.
pub record NotesStep (s : Session) (w : PlainState) (own : Own) (looks : Looks) : Type 0 where
  pub written : (a : ℕ) → is_some (own a) ≡ is_among a (written_cells s w)
  pub looked : (a : ℕ) → is_among a looks ≡ is_among a (read_cells s w)
