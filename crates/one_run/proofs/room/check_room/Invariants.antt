use Rattle.std.proofs.Common.{◌≡◌, IfSome, false, map, take, string_bytes}
use Rattle.std.specs.List.{list_any}
use Rattle.filenames.specs.Drives.{drive_number}
use Rattle.one_run.specs.ChangedList.{changed_by}
use Rattle.one_run.specs.Room.{is_taken}
use Rattle.one_run.proofs.room.check_room.Given as goal

abbrev pub invariant-loop-name : goal.invariant-loop-name
invariant-loop-name g l = record {
  unchanged : g.S.FileSystem.files l.system ≡ g.S.FileSystem.files l.fn.system;
  free : IfSome (g.S.FileSystem.files l.fn.system).bytes (λ stored.
      list_any (is_taken stored (drive_number l.drive) l.folder (map changed_by l.entries)) (map string_bytes (take l.name-index l.name-items)) ≡ false);
}
