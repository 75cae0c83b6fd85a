-- The statuses of errors.
use Rattle.std.proofs.Common.{◌≡◌, ◌∙◌, ℕ, sym}
use Rattle.streams.specs.Streams.{Output}
use Rattle.faults.specs.Faults.{ReportsFault, status_of}
use Rattle.faults.specs.declared.tool.Tool.{Tool}
use Rattle.faults.specs.declared.fault.Fault.{Fault}
use Rattle.faults.specs.declared.fault.Fault.TheVariants.{Usage, BadEscape, NotText, CannotRead, CannotWrite, DiskUnchanged, Folders, Refused, Malformed, TooLong, RulePath, OutOfMemory}

-- No error has the status 0.
status_above : (f : Fault) → status_of f ≡ 0 → ⊥
status_above (Usage text) e = cc
status_above (BadEscape text) e = cc
status_above NotText e = cc
status_above (CannotRead path) e = cc
status_above CannotWrite e = cc
status_above DiskUnchanged e = cc
status_above (Folders f) e = cc
status_above (Refused n) e = cc
status_above (Malformed k) e = cc
status_above (TooLong k) e = cc
status_above (RulePath path) e = cc
status_above OutOfMemory e = cc

-- A program that reports an error does not end with the status 0.
pub faults_are_told : (tool : Tool) (f : Fault) (status : ℕ) (before after : Output) → ReportsFault tool f status before after → status ≡ 0 → ⊥
faults_are_told tool f status before after h e = status_above f (sym h.0 ∙ e)
