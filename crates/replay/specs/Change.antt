-- The change that an accepted edit makes to the session. (This project's own.)
use Rattle.std.specs.Prelude.{◌≡◌, ◌+◌, ◌<◌, ◌≤◌, length, true, Some, None, Ok}
use Rattle.hostfiles.specs.Hosts.{has_room}
use Rattle.machine.specs.declared.session.TheConstants.{SCRIPT_LIMIT, STEP_LIMIT}
use Rattle.machine.specs.Inputs.{Session}
use Rattle.replay.specs.declared.change.Change.{Change}
use Rattle.replay.specs.declared.change.Change.TheVariants.{Splice, Poke, SetFile, RemoveFile, Limit}
use Rattle.replay.specs.declared.edit.Edit.{Edit}
use Rattle.replay.specs.Edits.{edited, with_host_file, with_poke, with_splice}

-- The session after a change.
abbrev pub session_after_change : Session → Change → Session
session_after_change s (Splice at removed bytes) = with_splice s at removed bytes
session_after_change s (Poke at bytes) = with_poke s at bytes
session_after_change s (SetFile name file) = with_host_file s name (Some file)
session_after_change s (RemoveFile name) = with_host_file s name None
session_after_change s (Limit n) = record s { limit = n }

-- A change has the same result for a session as the edit.
abbrev pub MakesChange : Session → Edit → Change → Type 0
MakesChange s edit change = edited s edit ≡ Ok (session_after_change s change)

-- A change stays within the session and its limits.
abbrev pub IsAllowed : Session → Change → Type 0
IsAllowed s (Splice at removed bytes) = (at + removed ≤ length s.script) × (length s.script + length bytes ≤ SCRIPT_LIMIT + removed)
IsAllowed s (Poke at bytes) = at + length bytes ≤ length s.program
IsAllowed s (SetFile name file) = has_room s.files name ≡ true
IsAllowed s (RemoveFile name) = Unit {0}
IsAllowed s (Limit n) = n ≤ STEP_LIMIT

-- The changes that may run out of memory: a splice that makes the script longer, and a file that is set.
abbrev pub ChangeAllocates : Change → Type 0
ChangeAllocates (Splice at removed bytes) = removed < length bytes
ChangeAllocates (SetFile name file) = Unit {0}
ChangeAllocates change = ⊥
