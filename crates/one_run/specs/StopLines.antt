-- The lines on standard error after a run. (This project's profile.)
use Rattle.std.specs.Prelude.{ℕ, ◌-◌, ◌++◌, [], List, Option, Some, None, codes, if◌then◌else◌, length, map, nat_lt, string_bytes, take}
use Rattle.std.specs.Borrow.{Bor}
use Rattle.std.specs.Fmt.{decimal}
use Rattle.std.specs.List.{flat_map}
use Rattle.faults.specs.Faults.{shown}
use Rattle.folders.specs.FileSystem.{Path}
use Rattle.report_lines.specs.FirstLines.{line, stop_line, word_text}
use Rattle.machine.specs.Cause.{Cause}
use Rattle.one_run.specs.ChangedList.{Changed, gone_lines, unchanged_line, unwritten_lines}
use Rattle.one_run.specs.declared.reporting.Disks.{Disks}
use Rattle.one_run.specs.declared.reporting.Report.{Report}

-- The line of a cell at which a run looked for the BIOS.
abbrev pub looked_line : Option ℕ → List ℕ
looked_line None = []
looked_line (Some cell) = line (codes "looked for the BIOS at " ++ word_text cell)

-- A line with a path.
abbrev pub path_line : List ℕ → Path → List ℕ
path_line before path = line (before ++ shown path)

-- The first three of the paths that ended runs left, and how many more there are.
abbrev pub left_line : Path → List ℕ
left_line path = path_line (codes "left by an ended run: ") path

abbrev pub more_line : ℕ → List ℕ
more_line count = if nat_lt 3 count then line (codes "and " ++ decimal (count - 3) ++ codes " more") else []

abbrev pub left_lines : List Path → List ℕ
left_lines paths = flat_map left_line (take 3 paths) ++ more_line (length paths)

-- The folders whose names may not outlast a power failure.
abbrev pub unsynced_line : Option (Bor Path) → List ℕ
unsynced_line None = []
unsynced_line (Some folder) = path_line (codes "not synced: ") folder.now

abbrev pub unsynced_lines : List (Option (Bor Path)) → List ℕ
unsynced_lines folders = flat_map unsynced_line folders

-- All of them.
abbrev pub stop_lines : Cause → Disks → Option ℕ → List Changed → List Path → List (Option (Bor Path)) → List ℕ
stop_lines cause disks looked cs left unsynced =
    stop_line cause ++ unchanged_line disks cs ++ looked_line looked ++ gone_lines disks cs ++ unwritten_lines disks cs ++ left_lines left ++ unsynced_lines unsynced

abbrev pub lines_of : Report → List Changed → List ℕ
lines_of r cs = stop_lines r.cause r.disks r.looked cs (map string_bytes r.left.now) r.unsynced
