use Rattle.std.proofs.Common.{◌≡◌, map, take, IfSome}
use Rattle.std.specs.Prelude.{string_bytes}
use Rattle.std.specs.List.{filter}
use Rattle.filenames.specs.Drives.{drive_number}
use Rattle.folders.specs.LetterCase.{prefers_lower}
use Rattle.folders.specs.Listings.{ListsFolder}
use Rattle.folders.specs.LeftNames.{is_left}
use Rattle.folders.proofs.reading.list_names.Given as goal

abbrev pub invariant-loop-name : goal.invariant-loop-name
invariant-loop-name g l = (l.listing.drive ≡ l.fn.drive)
    × (g.S.FileSystem.files l.system ≡ g.S.FileSystem.files l.fn.system)
    × IfSome (g.S.FileSystem.files l.fn.system).bytes (λ stored. ListsFolder stored (drive_number l.fn.drive) l.folder (take l.name-index (map string_bytes l.names)) l.listing.files l.listing.duplicate)
    × (l.listing.lower ≡ prefers_lower (drive_number l.fn.drive) (map string_bytes l.names))
    × (map string_bytes l.listing.left.items ≡ filter is_left (map string_bytes l.names))
