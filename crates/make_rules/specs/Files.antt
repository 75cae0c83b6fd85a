-- The host files on which a run depends, as paths. (This project's profile.)
use Rattle.std.specs.Prelude.{ℕ, ◌∷◌, ◌++◌, ◌||◌, ◌&&◌, not, Bool, if◌then◌else◌, is_some, List, [], map, filter, get_or, slice_index, Option, Some, None, String, string_bytes, codes, bytes_eq}
use Rattle.std.specs.Char.{to_ascii_lowercase}
use Rattle.std.specs.List.{flat_map, list_any}
use Rattle.std.specs.FinMap.{contains_key, get, keys}
use Rattle.filenames.specs.Drives.{drive_number}
use Rattle.filenames.specs.Names.{Key, display_text, is_sayable}
use Rattle.hostfiles.specs.Hosts.{Host}
use Rattle.first_looks.specs.FileSteps.{step_of_drive}
use Rattle.first_looks.specs.RecordSteps.{steps_of}
use Rattle.first_looks.specs.declared.file_steps.FileSteps.{FileSteps}
use Rattle.folders.specs.FileSystem.{Path}
use Rattle.folders.specs.FolderNames.{folder_name, path_text}
use Rattle.make_rules.specs.Carried.{as_read, fits_call}
use Rattle.folders.specs.declared.drive_folder.DriveFolder.{DriveFolder}

-- The directory of a drive was asked for.
abbrev pub is_searched : FileSteps → DriveFolder → Bool
is_searched asked d = is_some (step_of_drive asked.directories (drive_number d.listing.now.drive))

-- It was asked whether the file of this key is there, for its length, or for one of its records.
abbrev pub is_asked_about : FileSteps → Key → Bool
is_asked_about asked key = contains_key asked.has key || contains_key asked.lengths key || is_some (steps_of asked.records.files key)

-- A file in a folder by its name there, if it was asked about, or the directory, which has its name and its length.
abbrev pub part_of_file : FileSteps → DriveFolder → Path → Key → List Path
part_of_file asked d name key = if is_searched asked d || is_asked_about asked key then path_text d.folder.now name ∷ [] else []

-- The name of a file in a folder.
abbrev pub name_found : {Z : Type 0} → Option (String Z) → Path
name_found None = []
name_found (Some name) = string_bytes name

abbrev pub file_part : FileSteps → DriveFolder → Key → List Path
file_part asked d key = part_of_file asked d (name_found (get d.listing.now.files key)) key

-- The files in the folder of a drive that were asked about, in the order of their keys.
abbrev pub drive_files : FileSteps → Option DriveFolder → List Path
drive_files asked None = []
drive_files asked (Some d) = flat_map (file_part asked d) (keys d.listing.now.files)

abbrev pub all_files : FileSteps → List (Option DriveFolder) → List Path
all_files asked drives = flat_map (drive_files asked) drives

-- A folder with a `/` at its end, so that the end of its name has no other meaning.
abbrev pub folder_path : Path → Path
folder_path folder = path_text folder []

-- The folder of a drive, if its directory was asked for.
abbrev pub drive_folder : FileSteps → Option DriveFolder → List Path
drive_folder asked None = []
drive_folder asked (Some d) = if is_searched asked d then folder_path d.folder.now ∷ [] else []

abbrev pub all_folders : FileSteps → List (Option DriveFolder) → List Path
all_folders asked drives = flat_map (drive_folder asked) drives

-- ---- files that are not there

-- The file of a key is not there, and its name is valid.
abbrev pub is_absent : Host → Key → Bool
is_absent host key = is_sayable key && not (contains_key host key)

-- The files that were asked for and are not there, in the order of their keys.
abbrev pub absent_files : Host → FileSteps → List Key
absent_files host asked = filter (is_absent host) (keys asked.has)

-- Whether make takes a path for one of the targets.
abbrev pub is_target : List Path → Path → Bool
is_target targets path = list_any (λ target. bytes_eq (as_read path) (as_read target)) targets

abbrev pub is_other : List Path → Path → Bool
is_other targets path = not (is_target targets path)

-- A path that a call of make can have, unless make takes it for a target.
abbrev pub path_in_call : List Path → Path → List Path
path_in_call targets path = if fits_call path && is_other targets path then path ∷ [] else []

-- The paths that a file would have in the folder of its drive, by its name in upper and in lower case.
abbrev pub paths_in_call : List Path → Option DriveFolder → Key → List Path
paths_in_call targets None key = []
paths_in_call targets (Some d) key =
    path_in_call targets (path_text d.folder.now (folder_name key)) ++ path_in_call targets (path_text d.folder.now (map to_ascii_lowercase (folder_name key)))

-- The folder in which a file would be new, if no call of make can have the file's path.
abbrev pub folder_unless_in_call : List Path → Path → Path → List Path
folder_unless_in_call targets folder path = if fits_call path || is_target targets path then [] else folder_path folder ∷ []

abbrev pub folder_of_absent : List Path → Option DriveFolder → Key → List Path
folder_of_absent targets None key = []
folder_of_absent targets (Some d) key = folder_unless_in_call targets d.folder.now (path_text d.folder.now (folder_name key))

-- A comment about a file that is not there: the path that it would have in the folder of its drive, or its name if the drive has no folder.
abbrev pub comment : Path → List ℕ
comment path = codes "# not there: " ++ path ++ 10 ∷ []

abbrev pub comment_on_absent : Option DriveFolder → Key → List ℕ
comment_on_absent None key = comment (display_text key)
comment_on_absent (Some d) key = comment (path_text d.folder.now (folder_name key))

-- A part of the rule for each of some files, by the folder of its drive.
abbrev pub each_absent : {X : Type 0} → (Option DriveFolder → Key → List X) → List (Option DriveFolder) → List Key → List X
each_absent part drives files = flat_map (λ key. part (get_or drives (slice_index key 0) None) key) files
