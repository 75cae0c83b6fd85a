-- Whether a folder has room for the changed files of a run. (This project's profile: a folder has at most 512 files, of which no two have one
-- name.)
use Rattle.std.specs.Prelude.{◌≡◌, ◌+◌, ◌≤◌, ◌&&◌, ◌==◌, ℕ, Bool, true, false, not, List, Option, Some, None, IfSome, is_some, length, slice_index, string_bytes}
use Rattle.std.specs.FinMap.{contains_key}
use Rattle.std.specs.List.{filter, list_any}
use Rattle.std.specs.Str.{bytes_eq}
use Rattle.filenames.specs.Names.{Key}
use Rattle.folders.specs.FileSystem.{FileBytes, Path, StoredFiles}
use Rattle.folders.specs.FolderNames.{key_in, path_text}
use Rattle.folders.specs.declared.fault.Fault.{Fault}
use Rattle.folders.specs.declared.fault.Fault.TheVariants.{CannotRead, TooManyFiles, WouldBeTwo}
use Rattle.hostfiles.specs.declared.host.TheConstants.{COUNT_LIMIT}
use Rattle.one_run.specs.ChangedList.{Changed, is_turn}
use Rattle.one_run.specs.declared.planning.Turn.{Turn}
use Rattle.one_run.specs.declared.planning.Turn.TheVariants.{New, Gone}

-- Whether a file with a name of CP/M is at a name in the folder of a drive.
abbrev pub is_file : FileBytes → ℕ → Path → Path → Bool
is_file stored drive folder name = is_some (key_in drive name) && contains_key stored (path_text folder name)

-- How many of the changed files of a drive have this turn.
abbrev pub is_in_turn : ℕ → Turn → Changed → Bool
is_in_turn drive turn c = slice_index c.key 0 == drive && is_turn turn c.there c.expected

abbrev pub count_in_turn : ℕ → Turn → List Changed → ℕ
count_in_turn drive turn cs = length (filter (is_in_turn drive turn) cs)

-- With the new files, and without the ones that are gone, the folder has at most 512 files.
abbrev pub Fits : FileBytes → List Path → ℕ → Path → List Changed → Type 0
Fits stored names drive folder cs =
    length (filter (is_file stored drive folder) names) + count_in_turn drive New cs ≤ COUNT_LIMIT + count_in_turn drive Gone cs

-- Whether a changed file that is there has this name, but not this path.
abbrev pub is_at : Path → Option Path → Bool
is_at path None = false
is_at path (Some other) = bytes_eq other path

abbrev pub is_elsewhere : Key → Path → Changed → Bool
is_elsewhere key path c = c.there && bytes_eq c.key key && not (is_at path c.path)

-- Whether another file, at this name in the folder, would have the name of a changed one.
abbrev pub is_taken_by : FileBytes → Path → List Changed → Option Key → Bool
is_taken_by stored path cs None = false
is_taken_by stored path cs (Some key) = contains_key stored path && list_any (is_elsewhere key path) cs

abbrev pub is_taken : FileBytes → ℕ → Path → List Changed → Path → Bool
is_taken stored drive folder cs name = is_taken_by stored (path_text folder name) cs (key_in drive name)

-- If the files are known, the folder of a drive has room for the changed files.
abbrev pub HasRoom : StoredFiles → ℕ → Path → List Changed → Type 0
HasRoom files drive folder cs = IfSome files.bytes (λ stored.
    Fits stored (files.names folder) drive folder cs × (list_any (is_taken stored drive folder cs) (files.names folder) ≡ false))

-- Something could not be found.
abbrev pub IsAnyReadFault : Fault → Type 0
IsAnyReadFault (CannotRead path) = Unit {0}
IsAnyReadFault fault = ⊥

-- It has not, or what is in it could not be found.
abbrev pub IsRoomFault : Path → List Changed → Fault → Type 0
IsRoomFault folder cs (CannotRead path) = Unit {0}
IsRoomFault folder cs (TooManyFiles path) = string_bytes path ≡ folder
IsRoomFault folder cs (WouldBeTwo name) = (path : Path) × (list_any (is_elsewhere name path) cs ≡ true)
IsRoomFault folder cs fault = ⊥
