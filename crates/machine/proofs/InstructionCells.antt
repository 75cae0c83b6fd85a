-- The cells that an instruction writes and reads.
use Rattle.std.proofs.Common.{◌≡◌, ◌<◌, ℕ, ◌∷◌, [], map, refl, sym, subst, ap, ◌∙◌, arith}
use Rattle.std.proofs.lemmas.Bool.{ne_eqb, lt-leb}
use Rattle.std.proofs.lemmas.List.{append-nil}
use Rattle.std.specs.Prelude.{slice_index}
use Rattle.interaction_trees.specs.Tree.{Return, questions_of, result_of}
use Rattle.i8080.specs.End as end
use Rattle.i8080.specs.Instruction.{decided, instruction}
use Rattle.i8080.specs.Opcodes.{decoded}
use Rattle.i8080.specs.Performs.{writes_of}
use Rattle.i8080.specs.Reading.{asked, end_of}
use Rattle.i8080.specs.declared.registers.Regs.{Regs}
use Rattle.console_calls.specs.declared.desk.Spot.{Spot}
use Rattle.console_calls.specs.StateQuestions.{addresses}
use Rattle.bdos.specs.PerformsSystemCall.{SystemPath}
use Rattle.bdos.specs.SystemQuestions.{SystemAnswers, SystemTree, bind_reading, state_questions}
use Rattle.bdos.proofs.Trees.{path-reading}
use Rattle.machine.specs.Accesses.{InstructionCells, answers_in, cells_of_end, read_cells, written_cells}
use Rattle.machine.specs.Inputs.{Core, Session}
use Rattle.machine.specs.PlainState.{PlainState}
use Rattle.machine.specs.Step.{StepEnd, next, step_end_of}

abbrev ending : Spot → end.End → SystemTree StepEnd
ending spot e = Return (step_end_of spot e)

at_instruction : (c : Core) → c.regs.pc < 0xfe00 → next c ≡ bind_reading (instruction c.regs) (ending c.desk.spot)
unfolding next
at_instruction c low = rw (ne_eqb c.regs.pc 0xff03 (omega arith), ne_eqb c.regs.pc 0xfe06 (omega arith), lt-leb 0xfe00 c.regs.pc low) refl

cells_written : (spot : Spot) (e : end.End) → cells_of_end (step_end_of spot e) ≡ map (λ c. c.0) (writes_of e)
cells_written spot (end.Went r writes) = refl
cells_written spot end.Halt = refl
cells_written spot (end.Undefined byte) = refl

module _ (s : Session) (w : PlainState) (low : w.core.regs.pc < 0xfe00) where
  abbrev answered : SystemAnswers
  answered = answers_in s w

  pub cells_of_writes : written_cells s w ≡ map (λ c. c.0) (writes_of (end_of (instruction w.core.regs) (slice_index w.memory)))
  cells_of_writes =
      ap (λ t. cells_of_end (result_of answered t)) (at_instruction w.core low)
      ∙ ap (λ (p : SystemPath StepEnd). cells_of_end p.end) (path-reading answered (ending w.core.desk.spot) (instruction w.core.regs))
      ∙ cells_written w.core.desk.spot _

  pub cells_of_reads : read_cells s w ≡ asked (instruction w.core.regs) (slice_index w.memory)
  cells_of_reads =
      ap (λ t. addresses (state_questions (questions_of answered t))) (at_instruction w.core low)
      ∙ ap (λ (p : SystemPath StepEnd). p.cells) (path-reading answered (ending w.core.desk.spot) (instruction w.core.regs))
      ∙ append-nil _

module _ (r : Regs) (byte : ℕ → ℕ) (push : byte r.pc ≡ 0xc5) where
  -- PUSH B is at PC.
  push_end : r.sp ≡ 1 → map (λ c. c.0) (writes_of (end_of (instruction r) byte)) ≡ 0xffff ∷ 0 ∷ []
  unfolding instruction decoded
  push_end top = subst (λ b. map (λ c. c.0) (writes_of (end_of (decided b (decoded b) r) byte)) ≡ 0xffff ∷ 0 ∷ []) (sym push) (rw top refl)

  push_asks : asked (instruction r) byte ≡ r.pc ∷ []
  unfolding instruction decoded
  push_asks = subst (λ b. r.pc ∷ asked (decided b (decoded b) r) byte ≡ r.pc ∷ []) (sym push) refl

pub instruction_cells : InstructionCells
instruction_cells = record {
  written = cells_of_writes;
  read = cells_of_reads;
  push_writes = λ s w low push top. cells_of_writes s w low ∙ push_end w.core.regs (slice_index w.memory) push top;
  push_reads = λ s w low push. cells_of_reads s w low ∙ push_asks w.core.regs (slice_index w.memory) push;
}
