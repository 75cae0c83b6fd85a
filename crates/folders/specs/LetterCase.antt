-- The case of the names in a folder, and of new names there. (This project's profile.)
use Rattle.std.specs.Prelude.{◌&&◌, ℕ, Bool, not, nat_lt, List, if◌then◌else◌, is_some, length, map}
use Rattle.std.specs.Char.{is_ascii_lowercase, is_ascii_uppercase, to_ascii_lowercase}
use Rattle.std.specs.List.{filter, list_any}
use Rattle.filenames.specs.Names.{Key}
use Rattle.folders.specs.FileSystem.{Path}
use Rattle.folders.specs.FolderNames.{folder_name, key_in}

-- Whether a host file can have this name in the folder of a drive, with capital letters; and with small letters and no capital ones.
abbrev pub is_upper : ℕ → Path → Bool
is_upper drive name = is_some (key_in drive name) && list_any is_ascii_uppercase name

abbrev pub is_lower : ℕ → Path → Bool
is_lower drive name = is_some (key_in drive name) && (list_any is_ascii_lowercase name && not (list_any is_ascii_uppercase name))

-- Whether more of these names are in small letters than have capital ones.
abbrev pub prefers_lower : ℕ → List Path → Bool
prefers_lower drive names = nat_lt (length (filter (is_upper drive) names)) (length (filter (is_lower drive) names))

-- The name of a new file: as printed, in small letters if most names of the disk are.
abbrev pub new_name : Bool → Key → Path
new_name lower key = if lower then map to_ascii_lowercase (folder_name key) else folder_name key
