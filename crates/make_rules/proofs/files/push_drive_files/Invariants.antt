use Rattle.std.proofs.Common.{◌≡◌, ◌++◌, Some, length, map, string_bytes}
use Rattle.std.specs.List.{flat_map}
use Rattle.hostfiles.proofs.ChangedWalk.{keys_above}
use Rattle.make_rules.specs.Files.{drive_files, file_part}
use Rattle.make_rules.proofs.files.push_drive_files.Given as goal

-- Some first parts are there, and those of the keys above the last one are left.
abbrev pub invariant-loop-key : goal.invariant-loop-key
invariant-loop-key l = map string_bytes l.paths.items ++ flat_map (file_part l.asked l.drive) (keys_above l.drive.listing.now.files l.after)
    ≡ map string_bytes l.initial.paths.items ++ drive_files l.asked (Some l.drive)

abbrev pub decreases-loop-key : goal.decreases-loop-key
decreases-loop-key l = length (keys_above l.drive.listing.now.files l.after)
