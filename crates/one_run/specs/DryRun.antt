-- What a dry run reports: the changes that a run would make, and does not. (This project's profile.)
use Rattle.std.specs.Prelude.{◌≡◌, ◌==◌, ◌&&◌, ◌++◌, [], ◌∷◌, ℕ, Bool, false, List, Option, Some, None, IfSome, codes, get_or, if◌then◌else◌, is_some, map, slice_index}
use Rattle.std.specs.Borrow.{Bor}
use Rattle.std.specs.FinMap.{contains_key}
use Rattle.std.specs.List.{flat_map, list_any}
use Rattle.faults.specs.Faults.{shown}
use Rattle.folders.specs.FileSystem.{FileBytes, Path}
use Rattle.folders.specs.declared.fault.Fault.{Fault}
use Rattle.folders.specs.declared.fault.Fault.TheVariants.{CannotWrite, Irregular}
use Rattle.one_run.specs.ChangedList.{Changed, is_on_disk}
use Rattle.one_run.specs.StopLines.{path_line}
use Rattle.one_run.specs.declared.dry_run.Foretold.{Foretold}
use Rattle.one_run.specs.declared.dry_run.Verb.{Verb}
use Rattle.one_run.specs.declared.dry_run.Verb.TheVariants.{Write, Replace, Remove}
use Rattle.one_run.specs.declared.reporting.Disks.{Disks}
use Rattle.one_run.specs.declared.reporting.Disks.TheVariants.{Unchanged}
use Rattle.plan.specs.Wanted.{Wanted}
use Rattle.report_lines.specs.FirstLines.{line}

-- What would be done with the file of a path: it would be removed, or written, or it would replace the file that is there.
abbrev pub verb_for : FileBytes → Bool → Path → Verb
verb_for stored there path = if there then (if contains_key stored path then Replace else Write) else Remove

-- What would be done, in order: a path, and what would be done with its file.
abbrev pub seen : Foretold → Verb × Path
seen f = (f.verb, f.path.now)

abbrev pub foretold_of : FileBytes → Wanted → Verb × Path
foretold_of stored w = (verb_for stored (is_some w.contents) w.path, w.path)

abbrev pub foretold : FileBytes → List Wanted → List (Verb × Path)
foretold stored plan = map (foretold_of stored) plan

-- No file could be put at a path, or what is there could not be found.
abbrev pub IsForetellFault : Fault → Type 0
IsForetellFault (CannotWrite path) = Unit {0}
IsForetellFault (Irregular path) = Unit {0}
IsForetellFault fault = ⊥

-- The line of one of them.
abbrev pub verb_text : Verb → List ℕ
verb_text Write = codes "would write "
verb_text Replace = codes "would replace "
verb_text Remove = codes "would remove "

abbrev pub would_line : Verb × Path → List ℕ
would_line f = path_line (verb_text f.0) f.1

abbrev pub would_lines : List (Verb × Path) → List ℕ
would_lines fs = flat_map would_line fs

-- The lines of the disks on which a changed file is, if they would be left unchanged.
abbrev pub is_on_disk_of : ℕ → Changed → Bool
is_on_disk_of drive c = is_on_disk c && (slice_index c.key 0 == drive)

abbrev pub would_leave : Disks → List Changed → ℕ → Bool
would_leave Unchanged cs drive = list_any (is_on_disk_of drive) cs
would_leave disks cs drive = false

abbrev pub leave_line : Disks → List Changed → ℕ → Option (Bor Path) → List ℕ
leave_line disks cs drive None = []
leave_line disks cs drive (Some folder) = if would_leave disks cs drive then line (codes "would leave " ++ shown folder.now ++ codes " unchanged") else []

abbrev pub leave_lines : Disks → List Changed → List (Option (Bor Path)) → List ℕ
leave_lines disks cs folders =
    leave_line disks cs 0 (get_or folders 0 None) ++ leave_line disks cs 1 (get_or folders 1 None)
    ++ leave_line disks cs 2 (get_or folders 2 None) ++ leave_line disks cs 3 (get_or folders 3 None)
