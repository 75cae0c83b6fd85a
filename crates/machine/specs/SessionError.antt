-- Why a session is refused. (This project's own.)
use Rattle.std.specs.Prelude.{◌≡◌, ℕ, Result, Ok, Err}
use Rattle.machine.specs.Inputs.{Session}
use Rattle.machine.specs.declared.session.SessionError.{SessionError}
use Rattle.machine.specs.declared.session.SessionError.TheVariants.{ProgramTooLong, TailTooLong, TailByte, ScriptTooLong, LimitTooLarge}

-- The number of a refusal.
abbrev pub session_error_number : SessionError → ℕ
session_error_number ProgramTooLong = 1
session_error_number TailTooLong = 2
session_error_number TailByte = 3
session_error_number ScriptTooLong = 4
session_error_number LimitTooLarge = 5

-- The result is this session, or the refusal with this number.
abbrev pub IsMadeAs : Result Session ℕ → Result Session SessionError → Type 0
IsMadeAs wanted (Ok s) = wanted ≡ Ok s
IsMadeAs wanted (Err e) = wanted ≡ Err (session_error_number e)
