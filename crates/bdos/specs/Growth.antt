-- What calls of files need memory for. (This project's own.)
use Rattle.std.specs.Prelude.{◌≡◌, ℕ, ◌⊎◌, Bool, true, false, List, []}
use Rattle.i8080.specs.declared.registers.Regs.{Regs}
use Rattle.i8080.specs.Memory.{bytes}
use Rattle.i8080.specs.Performs.{WritesUnready}
use Rattle.console_calls.specs.declared.desk.Spot.{Spot}
use Rattle.console_calls.specs.ConsoleCalls.{CallEnd, Completed, Stopped}
use Rattle.console_calls.specs.PerformsCall.{Scene}
use Rattle.hostfiles.specs.FileLooks.{HasNewAsk}
use Rattle.file_calls.specs.Changes.{FileChange, Unchanged, Deleted, is_some_named}
use Rattle.file_calls.specs.TableView.{TableView, look_for_all}
use Rattle.bdos.specs.declared.function.SystemFunction.{SystemFunction}
use Rattle.bdos.specs.declared.function.SystemFunction.TheVariants.{OfDesk}
use Rattle.bdos.specs.FileCalls.{SystemEnd}
use Rattle.bdos.specs.PerformsSystemCall.{SystemPath, system_answers, system_path_by}
use Rattle.bdos.specs.SystemQuestions.{SystemTree}

-- Whether a change of files changes any.
abbrev pub is_change : FileChange → Bool
is_change Unchanged = false
is_change (Deleted keys) = is_some_named keys
is_change change = true

-- The cells that a call writes.
abbrev pub cells_of : CallEnd → List (ℕ × ℕ)
cells_of (Completed r spot bytes written) = written.cells
cells_of (Stopped cause) = []

-- What a call that ends so needs memory for: to change files, or to write a cell that is not ready.
abbrev pub Grows : (ℕ → Bool) → SystemEnd → Type 0
Grows ready end = (is_change end.1 ≡ true) ⊎ WritesUnready ready (cells_of end.0)

-- What a call of files needs memory for: to note a question to the host files that was not asked before, or at its end.
abbrev pub NeedsMemory : (ℕ → Bool) → TableView → SystemPath SystemEnd → Type 0
NeedsMemory ready files p = HasNewAsk files.looks (look_for_all files.own p.asks files.looks) ⊎ Grows ready p.end

-- The same for a call over a script, whose cells are ready or not.
abbrev pub NeedsMemoryFor : (Regs → Spot → SystemTree SystemEnd) → List ℕ → Scene → TableView → (ℕ → Bool) → Type 0
NeedsMemoryFor call script old files ready =
    NeedsMemory ready files (system_path_by (system_answers (bytes old.memory) script files.host files.own) (call old.regs old.desk.spot))

-- A promise about calls of files alone.
abbrev pub IfOfFiles : SystemFunction → Type 0 → Type 0
IfOfFiles OfDesk promise = Unit {0}
IfOfFiles f promise = promise
