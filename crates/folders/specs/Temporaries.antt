-- Where the new contents of a file are first written. (This project's own.)
use Rattle.std.specs.Prelude.{◌≡◌, ◌≢◌, ◌<◌, ◌==◌, ℕ, ◌++◌, List, None, codes, get_or, if◌then◌else◌, length, nat_lt}
use Rattle.std.specs.Fmt.{decimal}
use Rattle.folders.specs.FileSystem.{Path}
use Rattle.folders.specs.FolderNames.{key_in}

-- What is after the name: `.new`, or for a number above 0 that number after it.
abbrev pub suffix : ℕ → List ℕ
suffix number = if number == 0 then codes ".new" else codes ".new." ++ decimal number

-- The name of a file, or another for one that is so long that no text could be added.
abbrev pub short_name : Path → Path
short_name name = if nat_lt 200 (length name) then codes "cpmrun" else name

-- The name at which a file is first written: a `.`, its name, and such a text.
abbrev pub temporary_name : Path → ℕ → Path
temporary_name name number = codes "." ++ short_name name ++ suffix number

-- A path beside another: in the same folder, with such a name. No host file has this name on any drive.
pub record IsTemporaryOf (path temporary : Path) : Type 0 where
  pub folder : Path
  pub name : Path
  pub number : ℕ
  pub path_is : path ≡ folder ++ name
  pub temporary_is : temporary ≡ folder ++ temporary_name name number
  pub without_slash : (i : ℕ) → i < length name → get_or name i 0 ≢ 47
  pub passed_over : (drive : ℕ) → key_in drive (temporary_name name number) ≡ None
