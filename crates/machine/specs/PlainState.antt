-- The plain machine: its memory is one list and its files are one map, whoever wrote them. (This project's
-- own.)
use Rattle.std.specs.Prelude.{ℕ, List, [], ◌∷◌, map, slice_index, slice_set}
use Rattle.std.specs.List.{range_with_len}
use Rattle.interaction_trees.specs.Tree.{result_of}
use Rattle.interaction_trees.specs.Outcome.{Outcome, Step, Stop}
use Rattle.interaction_trees.specs.Run.{RunResult, run_to_limit}
use Rattle.console_calls.specs.declared.cause.Cause.{Cause}
use Rattle.console_calls.specs.declared.cause.Cause.TheVariants.{Limit}
use Rattle.console_calls.specs.StateQuestions.{answers}
use Rattle.bdos.specs.SystemQuestions.{SystemAnswers, OfState, OfFiles}
use Rattle.machine.specs.Inputs.{Session, Core}
use Rattle.machine.specs.CellCount.{cell_count}
use Rattle.machine.specs.Session.{image_of}
use Rattle.machine.specs.Step.{StepEnd, Went, Stopped, first_core, desk_with, next}
use Rattle.machine.specs.PlainFiles.{Files, loaded_files, answers_of, files_after}

-- The registers and the desk, the byte of each cell, and all files.
pub record PlainState : Type 0 where
  pub core : Core
  pub memory : List ℕ
  pub files : Files

-- The list of the bytes of all cells.
unfoldable pub memory_of : (ℕ → ℕ) → List ℕ
memory_of byte = map byte (range_with_len 0 cell_count)

-- The loaded memory: page zero, the program, and 0 in every other cell.
-- [Interface Guide 1979, page zero and the transient program area]
abbrev pub loaded_memory : Session → List ℕ
loaded_memory s = memory_of (image_of s)

-- The answers of a memory, a script and files.
abbrev pub plain_answers : List ℕ → List ℕ → Files → SystemAnswers
plain_answers memory script files (OfState q) = answers (slice_index memory) script q
plain_answers memory script files (OfFiles q) = answers_of files q

abbrev pub with_writes : List ℕ → List (ℕ × ℕ) → List ℕ
with_writes memory [] = memory
with_writes memory (w ∷ rest) = with_writes (slice_set memory w.0 w.1) rest

abbrev pub plain_outcome_with : PlainState → StepEnd → Outcome PlainState Cause
plain_outcome_with w (Went r spot bytes wrote change) =
    Step (record { core = record { regs = r; desk = desk_with w.core.desk spot bytes }; memory = with_writes w.memory wrote.cells; files = files_after change w.files })
plain_outcome_with w (Stopped cause) = Stop cause

-- The outcome that follows a machine: a step to another, or a stop.
unfoldable pub plain_outcome : Session → PlainState → Outcome PlainState Cause
plain_outcome s w = plain_outcome_with w (result_of (plain_answers w.memory s.script w.files) (next w.core))

-- The plain machine before the first step.
abbrev pub loaded_machine : Session → PlainState
loaded_machine s = record { core = first_core; memory = loaded_memory s; files = loaded_files s.files }

-- The run of a session on the plain machine, up to the limit.
abbrev pub PlainRun : Type 0
PlainRun = RunResult PlainState Cause

unfoldable pub plain_run : Session → PlainRun
plain_run s = run_to_limit (plain_outcome s) Limit s.limit (loaded_machine s)
