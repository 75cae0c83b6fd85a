-- For each question to the host files, the first step that asked it. (This project's own.)
use Rattle.std.specs.Prelude.{◌≡◌, ℕ, List, Option, Some, None, nat_lt, if◌then◌else◌, get_or}
use Rattle.std.specs.FinMap.{get}
use Rattle.hostfiles.specs.declared.looks.Ask.{Ask}
use Rattle.hostfiles.specs.declared.looks.Ask.TheVariants.{Has, Length, Rec, Directory}
use Rattle.hostfiles.specs.FileLooks.{is_same_ask}
pub use Rattle.first_looks.specs.Noting.{or_else, step_if, step_below}
use Rattle.first_looks.specs.RecordSteps.{step_of_record}
use Rattle.first_looks.specs.declared.file_steps.FileSteps.{FileSteps}

-- The lesser of two steps, if there is a first one.
abbrev pub lesser_step : Option ℕ → ℕ → ℕ
lesser_step None n = n
lesser_step (Some m) n = if nat_lt m n then m else n

-- The step of a drive; a number that is no drive's has none.
abbrev pub step_of_drive : List (Option ℕ) → ℕ → Option ℕ
step_of_drive directories drive = get_or directories drive None

-- For each drive the step is erased if it is `from` or later.
abbrev pub ErasesSteps : ℕ → List (Option ℕ) → List (Option ℕ) → Type 0
ErasesSteps from old new = (drive : ℕ) → step_of_drive new drive ≡ step_below from (step_of_drive old drive)

-- The step of a question.
abbrev pub step_of_ask : FileSteps → Ask → Option ℕ
step_of_ask s (Has key) = get s.has key
step_of_ask s (Length key) = get s.lengths key
step_of_ask s (Rec key k) = step_of_record s.records key k
step_of_ask s (Directory drive) = step_of_drive s.directories drive

-- A question has this step, unless it had one before, and all other steps are unchanged.
abbrev pub NotesStep : FileSteps → Ask → ℕ → FileSteps → Type 0
NotesStep old ask step new = (q : Ask) → step_of_ask new q ≡ or_else (step_of_ask old q) (step_if (is_same_ask q ask) step)

-- Each question has the step that it had.
abbrev pub SameSteps : FileSteps → FileSteps → Type 0
SameSteps old new = (q : Ask) → step_of_ask new q ≡ step_of_ask old q

-- A note for this question may run out of memory: the question has no step, and is not about a directory.
abbrev pub NoteMayFail : FileSteps → Ask → Type 0
NoteMayFail s (Has key) = get s.has key ≡ None
NoteMayFail s (Length key) = get s.lengths key ≡ None
NoteMayFail s (Rec key k) = step_of_record s.records key k ≡ None
NoteMayFail s (Directory drive) = ⊥
