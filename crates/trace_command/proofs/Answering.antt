-- An error of a trace.
use Rattle.std.proofs.Common.{◌≡◌, [], ℕ, List, refl}
use Rattle.faults.specs.Faults.{BreaksText, file_paths}
use Rattle.faults.specs.declared.fault.Fault.{Fault}
use Rattle.faults.specs.declared.fault.Fault.TheVariants.{Usage, BadEscape, NotText, CannotRead, CannotWrite, DiskUnchanged, Folders, Refused, Malformed, TooLong, RulePath, OutOfMemory}
use Rattle.streams.specs.Streams.{Output}

-- It is about no file.
pub no_paths : (text : List ℕ) (out written : Output) (f : Fault) → BreaksText text out written f → file_paths f ≡ []
no_paths text out written (Usage x) h = absurd h
no_paths text out written (BadEscape x) h = absurd h
no_paths text out written NotText h = absurd h
no_paths text out written (CannotRead x) h = absurd h
no_paths text out written CannotWrite h = refl
no_paths text out written DiskUnchanged h = absurd h
no_paths text out written (Folders x) h = absurd h
no_paths text out written (Refused x) h = absurd h
no_paths text out written (Malformed x) h = absurd h
no_paths text out written (TooLong x) h = absurd h
no_paths text out written (RulePath x) h = absurd h
no_paths text out written OutOfMemory h = refl
