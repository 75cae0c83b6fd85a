-- The result of an edit: the refusals with their numbers, and which edits may run out of memory. (This project's own.)
use Rattle.std.specs.Prelude.{◌≡◌, ℕ, Result, Ok, Err}
use Rattle.machine.specs.Inputs.{Session}
use Rattle.replay.specs.declared.edit.Edit.{Edit}
use Rattle.replay.specs.declared.edit.Edit.TheVariants.{Insert, SetFile}
use Rattle.replay.specs.declared.edit.EditError.{EditError}
use Rattle.replay.specs.declared.edit.EditError.TheVariants.{PastEnd, ScriptTooLong, NoSuchFile, FileTooLong, TooManyFiles, OutsideProgram, LimitTooLarge, OutOfMemory}

abbrev pub edit_error_number : EditError → ℕ
edit_error_number PastEnd = 1
edit_error_number ScriptTooLong = 2
edit_error_number NoSuchFile = 3
edit_error_number FileTooLong = 4
edit_error_number TooManyFiles = 5
edit_error_number OutsideProgram = 6
edit_error_number LimitTooLarge = 7
edit_error_number OutOfMemory = 8

-- The refusal that applies. Out of memory is the refusal only of an edit that is not refused otherwise.
abbrev pub Refuses : Result Session ℕ → EditError → Type 0
Refuses wanted OutOfMemory = (t : Session) × (wanted ≡ Ok t)
Refuses wanted e = wanted ≡ Err (edit_error_number e)

-- The result of `edit`, and the session after it.
abbrev pub AnswersEdit : {U : Type 0} → Result Session ℕ → Result U EditError → Session → Type 0
AnswersEdit wanted (Ok _) after = wanted ≡ Ok after
AnswersEdit wanted (Err e) after = Refuses wanted e

-- The edits that may run out of memory: insertions and files that are set.
abbrev pub EditAllocates : Edit → Type 0
EditAllocates (Insert at bytes) = Unit {0}
EditAllocates (SetFile name bytes) = Unit {0}
EditAllocates edit = ⊥
