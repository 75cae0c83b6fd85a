-- The stop of an instruction or a call. (This project's profile.)
use Rattle.std.specs.Prelude.{Option, Some, None}
use Rattle.i8080.specs.declared.outcome.Did.{Did}
use Rattle.i8080.specs.declared.outcome.Did.TheVariants as did
use Rattle.console_calls.specs.declared.cause.Cause.{Cause}
use Rattle.console_calls.specs.declared.cause.Cause.TheVariants.{Halt, Undefined}
use Rattle.console_calls.specs.declared.served.Served.{Served}
use Rattle.console_calls.specs.declared.served.Served.TheVariants as served

abbrev pub stop_of_instruction : Did → Option Cause
stop_of_instruction did.Went = None
stop_of_instruction did.Halt = Some Halt
stop_of_instruction (did.Undefined byte) = Some (Undefined byte)

abbrev pub stop_of_call : Served → Option Cause
stop_of_call served.Went = None
stop_of_call (served.Stop cause) = Some cause
