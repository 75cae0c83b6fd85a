-- Where the changed files of a run are written: onto the disk of their drive, which is a folder where each file keeps the name that it has
-- there, or into another folder under their printed names. (This project's profile.)
use Rattle.std.specs.Prelude.{ℕ, Bool, Option, Some, None, get_or, is_some, option_map, slice_index, string_bytes, unwrap_or}
use Rattle.std.specs.Borrow.{Bor}
use Rattle.std.specs.FinMap.{get}
use Rattle.filenames.specs.Names.{Key}
use Rattle.folders.specs.FileSystem.{Path}
use Rattle.folders.specs.FolderNames.{folder_name, path_text}
use Rattle.folders.specs.LetterCase.{new_name}
use Rattle.folders.specs.declared.drive_folder.DriveFolder.{DriveFolder}
use Rattle.folders.specs.declared.places.Places.{Places}

-- The path of a file on a disk: under the name that it has there, or the name of a new file.
abbrev pub path_on : DriveFolder → Key → Path
path_on disk key = path_text disk.folder.now (unwrap_or (option_map string_bytes (get disk.listing.now.files key)) (new_name disk.listing.now.lower key))

-- Whether the drive with a number has a disk.
abbrev pub has_disk : Places → ℕ → Bool
has_disk p drive = is_some (get_or p.disks drive None)

-- The path from which a file that is gone is removed, if its drive has a disk.
abbrev pub removed_place_of : Places → Key → Option Path
removed_place_of p key = option_map (λ disk. path_on disk key) (get_or p.disks (slice_index key 0) None)

-- The path at which a file is written, if its drive has a place: on the disk, or in a folder that is no disk.
abbrev pub or_outside : Option Path → Option (Bor Path) → Key → Option Path
or_outside None out key = option_map (λ folder. path_text folder.now (folder_name key)) out
or_outside (Some path) out key = Some path

abbrev pub place_of : Places → Key → Option Path
place_of p key = or_outside (removed_place_of p key) (get_or p.out (slice_index key 0) None) key
