-- Which edit lines may need memory. (This project's own.)
use Rattle.std.specs.Prelude.{◌≡◌, ℕ, ◌<◌, ◌⊎◌, List, length, Ok}
use Rattle.machine.specs.Inputs.{Session}
use Rattle.replay.specs.declared.edit.Edit.TheVariants.{Insert, Replace, Poke, SetFile}
use Rattle.replay.specs.Edits.{edited}
use Rattle.replay.specs.EditAnswers.{EditAllocates}
use Rattle.edit_lines.specs.declared.line.Command.{Command}
use Rattle.edit_lines.specs.declared.line.Command.TheVariants.{Edit, Run, DropOldest}
use Rattle.edit_lines.specs.EditLine.{EditLine}

-- The commands that name bytes, for which a buffer is allocated.
abbrev pub NamesBytes : Command → Type 0
NamesBytes (Edit (Insert at bytes)) = 0 < length bytes
NamesBytes (Edit (Replace at bytes)) = 0 < length bytes
NamesBytes (Edit (Poke at bytes)) = 0 < length bytes
NamesBytes (Edit (SetFile key bytes)) = 0 < length bytes
NamesBytes command = ⊥

-- The commands that may need memory in a session: a run, and an insertion or a file that the session does not refuse.
abbrev pub CommandAllocates : Session → Command → Type 0
CommandAllocates s (Edit e) = EditAllocates e × ((t : Session) × (edited s e ≡ Ok t))
CommandAllocates s Run = Unit {0}
CommandAllocates s (DropOldest n) = ⊥

-- The lines that may need memory in a session: edit lines, for the bytes that they name or for what they do.
abbrev pub LineAllocates : Session → List ℕ → Type 0
LineAllocates s line = (c : Command) × EditLine line c × (NamesBytes c ⊎ CommandAllocates s c)
