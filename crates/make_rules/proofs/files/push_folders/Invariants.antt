use Rattle.std.proofs.Common.{◌≡◌, ◌++◌, drop, map, string_bytes}
use Rattle.std.specs.List.{flat_map}
use Rattle.make_rules.specs.Files.{drive_folder}
use Rattle.make_rules.proofs.files.push_folders.Given as goal

-- The parts of the first drives are there, and those of the others are left.
abbrev pub invariant-loop-drive : goal.invariant-loop-drive
invariant-loop-drive l = map string_bytes l.paths.items ++ flat_map (drive_folder l.asked) (drop l.drive-index l.drives)
    ≡ map string_bytes l.initial.paths.items ++ flat_map (drive_folder l.asked) l.drives
