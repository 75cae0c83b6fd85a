-- The names under which ended runs left new contents of files. (This project's own.)
use Rattle.std.specs.Prelude.{◌==◌, ◌&&◌, Bool, false, List, ℕ, [], ◌∷◌, Option, Some, None, codes, if◌then◌else◌, is_some, length, not}
use Rattle.std.specs.Char.{is_ascii_digit}
use Rattle.std.specs.List.{list_all}
use Rattle.std.specs.Path.{rsplit_once}
use Rattle.std.specs.Str.{bytes_eq}
use Rattle.folders.specs.FileSystem.{Path}
use Rattle.folders.specs.FolderNames.{key_in}

-- One or more decimal digits.
abbrev pub is_number : List ℕ → Bool
is_number text = not (length text == 0) && list_all is_ascii_digit text

-- A name that was split at its last `.`, if it has one: the part before it if a number is after it, or else the whole name.
abbrev pub before_number : Path → Option (Path × Path) → Path
before_number name None = name
before_number name (Some (front, last)) = if is_number last then front else name

-- Whether the last part is `new`, and the part before it the valid name of a file.
abbrev pub is_new_of_file : Option (Path × Path) → Bool
is_new_of_file None = false
is_new_of_file (Some (file, last)) = bytes_eq last (codes "new") && is_some (key_in 0 file)

-- Whether a name is `.NAME.new`, or that with a `.` and a number after it, for the valid name of a file.
abbrev pub is_left : Path → Bool
is_left [] = false
is_left (first ∷ rest) = first == 46 && is_new_of_file (rsplit_once 46 (before_number rest (rsplit_once 46 rest)))
