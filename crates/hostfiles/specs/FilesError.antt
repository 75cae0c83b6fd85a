-- The reasons why a host file is not set. (This project's own.)
use Rattle.std.specs.Prelude.{◌≡◌, ℕ, Option, Some, None, Result, Ok, Err}
use Rattle.hostfiles.specs.declared.host.FilesError.{FilesError}
use Rattle.hostfiles.specs.declared.host.FilesError.TheVariants.{FileTooLong, TooManyFiles, OutOfMemory}

-- The number of a refusal.
abbrev pub files_error_number : FilesError → ℕ
files_error_number FileTooLong = 1
files_error_number TooManyFiles = 2
files_error_number OutOfMemory = 3

-- The result is a refusal with the wanted number. If no number is wanted, it is `Ok` or out of memory.
abbrev pub RefusedAs : Option ℕ → Result (Unit {0}) FilesError → Type 0
RefusedAs None (Ok x) = Unit {0}
RefusedAs None (Err e) = e ≡ OutOfMemory
RefusedAs (Some n) (Ok x) = ⊥
RefusedAs (Some n) (Err e) = files_error_number e ≡ n
