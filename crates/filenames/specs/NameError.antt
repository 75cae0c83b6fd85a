-- The reasons why a text is not a name. (This project's own.)
use Rattle.std.specs.Prelude.{◌≡◌, ℕ, Result, Ok, Err}
use Rattle.filenames.specs.Names.{Key}
use Rattle.filenames.specs.declared.name.NameError.{NameError}
use Rattle.filenames.specs.declared.name.NameError.TheVariants.{Empty, TooLong, BadByte, BadLetter}

-- The number of a refusal.
abbrev pub name_error_number : NameError → ℕ
name_error_number Empty = 1
name_error_number TooLong = 2
name_error_number BadByte = 3
name_error_number BadLetter = 4

-- The result is the wanted key, or the refusal with the wanted number.
abbrev pub IsParsedAs : Result Key ℕ → Result Key NameError → Type 0
IsParsedAs wanted (Ok key) = wanted ≡ Ok key
IsParsedAs wanted (Err e) = wanted ≡ Err (name_error_number e)
