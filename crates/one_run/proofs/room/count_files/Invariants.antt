use Rattle.std.proofs.Common.{◌≡◌, ◌≤◌, IfSome, length, map, take, string_bytes}
use Rattle.std.specs.List.{filter}
use Rattle.filenames.specs.Drives.{drive_number}
use Rattle.one_run.specs.Room.{is_file}
use Rattle.one_run.proofs.room.count_files.Given as goal

abbrev pub invariant-loop-name : goal.invariant-loop-name
invariant-loop-name g l = record {
  unchanged : g.S.FileSystem.files l.system ≡ g.S.FileSystem.files l.fn.system;
  bound : l.files ≤ l.name-index;
  count : IfSome (g.S.FileSystem.files l.fn.system).bytes (λ stored.
      l.files ≡ length (filter (is_file stored (drive_number l.drive) l.folder) (map string_bytes (take l.name-index l.names))));
}
