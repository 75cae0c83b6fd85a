-- What ended runs left on the disks of a run. (This project's profile.)
use Rattle.std.specs.Prelude.{List, [], Option, Some, None, map, string_bytes}
use Rattle.std.specs.List.{flat_map}
use Rattle.folders.specs.FileSystem.{Path}
use Rattle.folders.specs.FolderNames.{path_text}
use Rattle.folders.specs.declared.drive_folder.DriveFolder.{DriveFolder}

-- The paths of what was left in the folder of a disk, and on all disks.
abbrev pub left_in : DriveFolder → List Path
left_in disk = map (λ name. path_text disk.folder.now (string_bytes name)) disk.listing.now.left.items

abbrev pub left_on_drive : Option DriveFolder → List Path
left_on_drive None = []
left_on_drive (Some disk) = left_in disk

abbrev pub left_on : List (Option DriveFolder) → List Path
left_on disks = flat_map left_on_drive disks
