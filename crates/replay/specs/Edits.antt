-- The session after an edit. (This project's own.)
use Rattle.std.specs.Prelude.{ℕ, ◌+◌, ◌-◌, ◌||◌, List, [], length, nat_lt, if◌then◌else◌, Option, Some, None, Result, Ok, Err}
use Rattle.std.specs.FinMap.{contains_key}
use Rattle.hostfiles.specs.Hosts.{Key, Record, has_room, records_in}
use Rattle.first_looks.specs.Setting.{with_file}
use Rattle.machine.specs.declared.session.TheConstants.{SCRIPT_LIMIT, STEP_LIMIT}
use Rattle.machine.specs.Inputs.{Session}
use Rattle.machine.specs.Session.{splice, written_over}
use Rattle.replay.specs.declared.edit.Edit.{Edit}
use Rattle.replay.specs.declared.edit.Edit.TheVariants.{Insert, Replace, Remove, Poke, SetFile, RemoveFile, SetLimit}

-- The session with bytes of its program replaced from an offset on, counted from the program's first byte.
abbrev pub with_poke : Session → ℕ → List ℕ → Session
with_poke s at bytes = record s { program = written_over s.program at bytes }

-- The session with bytes of its program replaced from an address on, if all of them are inside the program.
abbrev pub poke_result : Session → ℕ → List ℕ → Result Session ℕ
poke_result s at bytes =
    if nat_lt at 256 || nat_lt (256 + length s.program) (at + length bytes) then Err 6
    else Ok (with_poke s (at - 256) bytes)

-- The session with `removed` bytes of its script, from an offset on, exchanged for others.
abbrev pub with_splice : Session → ℕ → ℕ → List ℕ → Session
with_splice s at removed bytes = record s { script = splice s.script at removed bytes }

-- The session with these records as the host file of a key, or with no host file there.
abbrev pub with_host_file : Session → Key → Option (List Record) → Session
with_host_file s key file = record s { files = with_file s.files key file }

-- The session with a host file set to these bytes, padded to whole records, if they are not too many and there is room for the
-- file.
abbrev pub set_file_result : Session → Key → List ℕ → Result Session ℕ
set_file_result s key bytes =
    if nat_lt 8388608 (length bytes) then Err 4
    else if has_room s.files key then Ok (with_host_file s key (Some (records_in bytes)))
    else Err 5

-- The session after an edit, or the number of the refusal.
abbrev pub edited : Session → Edit → Result Session ℕ
edited s (Insert at bytes) =
    if nat_lt (length s.script) at then Err 1
    else if nat_lt SCRIPT_LIMIT (length s.script + length bytes) then Err 2
    else Ok (with_splice s at 0 bytes)
edited s (Replace at bytes) = if nat_lt (length s.script) (at + length bytes) then Err 1 else Ok (with_splice s at (length bytes) bytes)
edited s (Remove at count) = if nat_lt (length s.script) (at + count) then Err 1 else Ok (with_splice s at count [])
edited s (Poke at bytes) = poke_result s at bytes
edited s (SetFile name bytes) = set_file_result s name bytes
edited s (RemoveFile name) = if contains_key s.files name then Ok (with_host_file s name None) else Err 3
edited s (SetLimit n) = if nat_lt STEP_LIMIT n then Err 7 else Ok (record s { limit = n })
