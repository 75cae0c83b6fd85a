-- A session, and the memory that is loaded from it. ([Interface Guide 1979, page zero and the transient program area]; the
-- limits: this project's profile.)
use Rattle.std.specs.Prelude.{◌≡◌, ℕ, ◌≤◌, Bool, true, not, ◌&&◌, List, ◌++◌, length, take, drop, ◌+◌, nat_le, nat_lt, if◌then◌else◌, Result, Ok, Err}
use Rattle.std.specs.List.{list_all}
use Rattle.pagemem.specs.Image.{image_at}
use Rattle.command_tail.specs.declared.page.TheConstants.{TAIL_LIMIT}
use Rattle.command_tail.specs.PageZero.{page_zero}
use Rattle.hostfiles.specs.Hosts.{Host, IsHost}
use Rattle.machine.specs.declared.session.TheConstants.{PROGRAM_LIMIT, SCRIPT_LIMIT, STEP_LIMIT}
use Rattle.machine.specs.Inputs.{Session}

-- Whether a command tail may contain a byte. (This project's profile.)
abbrev pub is_tail_byte : ℕ → Bool
is_tail_byte b = nat_le 0x20 b && nat_le b 0x7e

-- A session within the limits.
pub record IsSession (s : Session) : Type 0 where
  pub program : length s.program ≤ PROGRAM_LIMIT
  pub tail : length s.tail ≤ TAIL_LIMIT
  pub tail_bytes : list_all is_tail_byte s.tail ≡ true
  pub files : IsHost s.files
  pub script : length s.script ≤ SCRIPT_LIMIT
  pub limit : s.limit ≤ STEP_LIMIT

-- The session with these parts.
abbrev pub session_of : List ℕ → List ℕ → Host → List ℕ → ℕ → Session
session_of program tail files script limit = record { program = program; tail = tail; files = files; script = script; limit = limit }

-- The same, or the number of the refusal.
abbrev pub session_or_refusal : List ℕ → List ℕ → Host → List ℕ → ℕ → Result Session ℕ
session_or_refusal program tail files script limit =
    if nat_lt PROGRAM_LIMIT (length program) then Err 1
    else if nat_lt TAIL_LIMIT (length tail) then Err 2
    else if not (list_all is_tail_byte tail) then Err 3
    else if nat_lt SCRIPT_LIMIT (length script) then Err 4
    else if nat_lt STEP_LIMIT limit then Err 5
    else Ok (session_of program tail files script limit)

-- The byte of each cell of the loaded image: page zero with the command tail, the program, and 0 elsewhere.
abbrev pub image_of : Session → ℕ → ℕ
image_of s = image_at (page_zero s.tail) s.program

-- A list with `removed` bytes from an index on replaced by others.
abbrev pub splice : List ℕ → ℕ → ℕ → List ℕ → List ℕ
splice list at removed bytes = take at list ++ bytes ++ drop (at + removed) list

-- A list with other bytes written over it from an index on.
abbrev pub written_over : List ℕ → ℕ → List ℕ → List ℕ
written_over list at bytes = take at list ++ bytes ++ drop (at + length bytes) list
