-- The written cells of pages, as a finite map. (This project's own.)
use Rattle.std.specs.Prelude.{ℕ, zero, suc, Option, Some, None}
use Rattle.std.specs.FinMap as map
use Rattle.i8080.specs.declared.registers.Regs.{Regs}
use Rattle.console_calls.specs.declared.script_looks.ScriptLooks.{ScriptLooks}
use Rattle.console_calls.specs.Desk.{Desk}
use Rattle.console_calls.specs.ScriptLooks.{DeskLooks}
use Rattle.hostfiles.specs.Files as files
use Rattle.hostfiles.specs.declared.looks.FileLooks.{FileLooks}
use Rattle.hostfiles.specs.declared.changes.Changes.{Changes}
use Rattle.machine.specs.CellCount.{cell_count}
use Rattle.machine.specs.StateView.{OwnCells, PartialState}

abbrev pub with_cell_if_any : OwnCells → ℕ → Option ℕ → OwnCells
with_cell_if_any m a None = m
with_cell_if_any m a (Some v) = map.insert m a v

-- The written cells below n.
abbrev pub written_below : ℕ → (ℕ → Option ℕ) → OwnCells
written_below zero own = map.empty
written_below (suc n) own = with_cell_if_any (written_below n own) n (own n)

-- The written cells of a memory.
unfoldable pub written_cells : (ℕ → Option ℕ) → OwnCells
written_cells own = written_below cell_count own

-- What a step has besides registers and memory: the desk and what was done to the files, and the looks at the script and at the
-- host files.
pub record DeskAndFiles : Type 0 where
  pub desk : Desk
  pub offsets : ScriptLooks
  pub files : files.OwnFiles
  pub asks : FileLooks

abbrev pub devices_of : DeskLooks → Changes → DeskAndFiles
devices_of d c = record { desk = d.desk; offsets = d.looks; files = c.journal.entries; asks = c.looks }

-- The state with these registers and these devices, which wrote this.
abbrev pub state_with : Regs → DeskAndFiles → (ℕ → Option ℕ) → PartialState
state_with r d own = record { core = record { regs = r; desk = d.desk }; own = record { cells = written_cells own; files = d.files } }
