-- The changed files of a run, what is done with them, and the lines after the run. (This project's profile.)
use Rattle.std.specs.Prelude.{ℕ, Bool, true, false, not, ◌&&◌, if◌then◌else◌, ◌++◌, [], ◌∷◌, List, Option, Some, None, codes, find, is_some, map, option_map, slice_index, string_bytes, unwrap_or}
use Rattle.std.specs.FinMap.{contains_key, get}
use Rattle.std.specs.List.{concat, flat_map, list_any}
use Rattle.filenames.specs.Names.{display_text}
use Rattle.folders.specs.ChangedBytes.{file_bytes}
use Rattle.folders.specs.FileSystem.{Path}
use Rattle.folders.specs.Places.{has_disk, place_of, removed_place_of}
use Rattle.folders.specs.declared.places.Places.{Places}
use Rattle.hostfiles.specs.FileView.{is_view_there}
use Rattle.hostfiles.specs.Hosts.{Host}
use Rattle.hostfiles.specs.Names.{Key}
use Rattle.machine.specs.ChangedFiles.{changed_keys_in, contents_in}
use Rattle.machine.specs.PlainFiles.{Files}
use Rattle.plan.specs.Wanted.{Expected, Wanted, expected_of, wanted}
use Rattle.report_lines.specs.FirstLines.{line}
use Rattle.one_run.specs.declared.changed.Entry.{Entry}
use Rattle.one_run.specs.declared.planning.Turn.{Turn}
use Rattle.one_run.specs.declared.planning.Turn.TheVariants.{Outside, New, Replacing, Gone}
use Rattle.one_run.specs.declared.reporting.Disks.{Disks}
use Rattle.one_run.specs.declared.reporting.Disks.TheVariants.{Absent, Unchanged}

-- A changed file: its name, whether it is there, its bytes, what is expected at its path, and this path, if it has one.
pub record Changed : Type 0 where
  pub key : Key
  pub there : Bool
  pub bytes : List ℕ
  pub expected : Expected
  pub path : Option Path

-- What is expected at the path of a file: on a disk what was loaded from there, if anything was.
abbrev pub expected_at : Places → Host → Key → Expected
expected_at p host key = if has_disk p (slice_index key 0) then Some (get host key) else None

-- The path to which a file that is there is written, and from which one that is gone is removed.
abbrev pub path_for : Places → Bool → Key → Option Path
path_for p there key = if there then place_of p key else removed_place_of p key

abbrev pub changed_with : Places → Host → Bool → List ℕ → Key → Changed
changed_with p host there bytes key = record { key = key; there = there; bytes = bytes; expected = expected_at p host key; path = path_for p there key }

-- Its bytes are its records in order, with zeros for its holes; none if there is no file.
abbrev pub changed_at : Places → Host → Files → Key → Changed
changed_at p host files key = changed_with p host (contains_key files key) (concat (unwrap_or (contents_in files key) [])) key

-- The changed files, in the order of their names.
abbrev pub changed_list : Places → Host → Files → List Changed
changed_list p host files = map (changed_at p host files) (changed_keys_in host files)

-- The changed file of an entry.
abbrev pub changed_by : Entry → Changed
changed_by e = record {
  key = e.name;
  there = is_view_there e.file;
  bytes = file_bytes e.file;
  expected = expected_of e.before;
  path = option_map string_bytes e.path;
}

abbrev pub is_on_disk : Changed → Bool
is_on_disk c = is_some c.expected

-- A file that is there and has no place.
abbrev pub is_unplaced : Changed → Bool
is_unplaced c = c.there && not (is_some c.path)

abbrev pub is_entry_on_disk : Entry → Bool
is_entry_on_disk e = is_on_disk (changed_by e)

abbrev pub is_entry_unplaced : Entry → Bool
is_entry_unplaced e = is_unplaced (changed_by e)

-- The name of the first file that is there and has no place.
abbrev pub first_unplaced : List Changed → Option Key
first_unplaced cs = option_map (λ c. c.key) (find is_unplaced cs)

-- ---- what is done

-- The turn of a file: outside of disks first, then new ones on disks, then the ones that replace others there, and the ones that are gone
-- last.
abbrev pub is_turn : Turn → Bool → Expected → Bool
is_turn Outside true None = true
is_turn New true (Some None) = true
is_turn Replacing true (Some (Some records)) = true
is_turn Gone false expected = true
is_turn turn there expected = false

-- What is done with a changed file, if it has a place: its bytes are put there, or it is removed.
abbrev pub wanted_at : Option Path → Changed → List Wanted
wanted_at None c = []
wanted_at (Some path) c = wanted path c.expected (if c.there then Some c.bytes else None) ∷ []

abbrev pub planned_for : Turn → Changed → List Wanted
planned_for turn c = if is_turn turn c.there c.expected then wanted_at c.path c else []

-- What is done in a turn.
abbrev pub planned : Turn → List Changed → List Wanted
planned turn cs = flat_map (planned_for turn) cs

-- ---- the lines after a run

-- A file that is not there. If disks are unchanged, a file on one of them is still there.
abbrev pub is_gone : Disks → Changed → Bool
is_gone Unchanged c = not c.there && not (is_on_disk c)
is_gone disks c = not c.there

abbrev pub gone_line : Disks → Changed → List ℕ
gone_line disks c = if is_gone disks c then line (codes "gone " ++ display_text c.key) else []

abbrev pub gone_lines : Disks → List Changed → List ℕ
gone_lines disks cs = flat_map (gone_line disks) cs

abbrev pub unplaced_line : Changed → List ℕ
unplaced_line c = if is_unplaced c then line (codes "not written " ++ display_text c.key) else []

abbrev pub unplaced_lines : List Changed → List ℕ
unplaced_lines cs = flat_map unplaced_line cs

-- The line of unchanged disks, if a changed file is on one.
abbrev pub unchanged_line : Disks → List Changed → List ℕ
unchanged_line Unchanged cs = if list_any is_on_disk cs then line (codes "disk unchanged") else []
unchanged_line disks cs = []

-- The lines of the files that were not written, if there are disks.
abbrev pub unwritten_lines : Disks → List Changed → List ℕ
unwritten_lines Absent cs = []
unwritten_lines disks cs = unplaced_lines cs
