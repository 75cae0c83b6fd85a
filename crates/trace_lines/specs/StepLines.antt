-- The line of an instruction. (This project's profile.)
use Rattle.std.specs.Prelude.{ℕ, Bool, nat_lt, List, [], ◌∷◌, ◌++◌, codes, flat_map, slice_index, take}
use Rattle.std.specs.Fmt.{decimal}
use Rattle.interaction_trees.specs.Outcome.{Outcome, Step, Stop}
use Rattle.i8080.specs.Opcodes.{decoded}
use Rattle.i8080.specs.Operands.{byte_count}
use Rattle.i8080.specs.Registers.{onward}
use Rattle.console_calls.specs.declared.cause.Cause.{Cause}
use Rattle.machine.specs.Inputs.{Session}
use Rattle.machine.specs.PlainState.{PlainState}
use Rattle.mnemonics.specs.Mnemonics.{instruction_text}
use Rattle.report_lines.specs.FirstLines.{byte_text, word_text, regs_text, line}
use Rattle.accesses.specs.Accesses.{written_cells}

-- The byte of a cell.
abbrev pub cell_in : PlainState → ℕ → ℕ
cell_in w at = slice_index w.memory at

-- The instruction that begins with three bytes: two digits for each of its bytes, and its text.
abbrev pub code_text : ℕ → ℕ → ℕ → List ℕ
code_text a b c =
    flat_map byte_text (take (byte_count (decoded a)) (a ∷ b ∷ c ∷ [])) ++ codes " " ++ instruction_text (decoded a) a b c

abbrev pub step_start : ℕ → PlainState → List ℕ
step_start n w =
    codes "step " ++ decimal n ++ codes " " ++ regs_text w.core.regs ++ codes " "
    ++ code_text (cell_in w w.core.regs.pc) (cell_in w (onward w.core.regs.pc 1)) (cell_in w (onward (onward w.core.regs.pc 1) 1))

-- A cell that was written, with its byte before and after.
abbrev pub change_text : ℕ → ℕ → ℕ → List ℕ
change_text at old new = codes " cell " ++ word_text at ++ codes " " ++ byte_text old ++ codes " to " ++ byte_text new

-- The cells that were written from one state to the next.
abbrev pub changes_text : PlainState → PlainState → List ℕ → List ℕ
changes_text w w' cells = flat_map (λ at. change_text at (cell_in w at) (cell_in w' at)) cells

unfoldable pub step_end : Session → PlainState → Outcome PlainState Cause → List ℕ
step_end s w (Step w') = changes_text w w' (written_cells s w)
step_end s w (Stop cause) = []

unfoldable pub step_line : Session → ℕ → PlainState → Outcome PlainState Cause → List ℕ
step_line s n w next = line (step_start n w ++ step_end s w next)
