-- What is written while a run goes on, and its status. (This project's profile.)
use Rattle.std.specs.Prelude.{ℕ, ◌⊎◌, List, take}
use Rattle.machine.specs.Cause.{Cause}
use Rattle.machine.specs.Cause.TheVariants.{WarmBoot, Halt, Limit, Undefined, SystemArea, ConsoleExhausted, NoDollar, Unsupported, BadDrive}
use Rattle.streams.specs.Streams.{Output, WritesPart, WritesWhole}
use Rattle.one_run.specs.declared.running.RunFault.{RunFault}
use Rattle.one_run.specs.declared.running.RunFault.TheVariants.{Console, Trace, OutOfMemory}

-- The exit status after a run that stopped by this cause.
abbrev pub stop_status : Cause → ℕ
stop_status WarmBoot = 0
stop_status Limit = 3
stop_status Halt = 4
stop_status (Undefined byte) = 5
stop_status (SystemArea address) = 6
stop_status ConsoleExhausted = 7
stop_status NoDollar = 8
stop_status (Unsupported number) = 9
stop_status (BadDrive number) = 10

-- A prefix of a text was written.
abbrev pub WritesFirst : Output → Output → List ℕ → Type 0
WritesFirst old new text = (count : ℕ) × WritesWhole old new (take count text)

-- What was written of the console text and of the trace of a run that is broken off: a prefix of each. If the error is that one of them could
-- not be written, writing it failed.
abbrev pub BreaksRun : RunFault → List ℕ → List ℕ → Output → Output → Output → Output → Type 0
BreaksRun Console console trace out out' t t' = WritesPart out out' console × (WritesFirst t t' trace ⊎ WritesPart t t' trace)
BreaksRun Trace console trace out out' t t' = WritesFirst out out' console × WritesPart t t' trace
BreaksRun OutOfMemory console trace out out' t t' = WritesFirst out out' console × WritesFirst t t' trace
