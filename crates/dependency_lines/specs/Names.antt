-- The lines of files that were asked for, by their names. (This project's profile.)
use Rattle.std.specs.Prelude.{ℕ, Bool, if◌then◌else◌, is_some, List, [], ◌++◌, map, length, option_map, Option, Some, None, codes}
use Rattle.std.specs.Fmt.{decimal}
use Rattle.std.specs.List.{concat}
use Rattle.std.specs.Ordering.{nat_cmp}
use Rattle.std.specs.Cmp.Lexicographic.{slice_cmp}
use Rattle.std.specs.FinMap.{FinMap, contains_key, from_entries, get, keys}
use Rattle.filenames.specs.Names.{Key}
use Rattle.hostfiles.specs.Hosts.{Host}
use Rattle.first_looks.specs.FirstSteps.{Steps}
use Rattle.first_looks.specs.RecordSteps.{RecordNotes, steps_of}
use Rattle.first_looks.specs.declared.file_steps.FileSteps.{FileSteps}
use Rattle.dependencies.specs.Rows.{rows_from}
use Rattle.dependencies.specs.declared.rows.Joining.{Joining}
use Rattle.dependency_lines.specs.Heads.{name_text, step_line}
use Rattle.dependency_lines.specs.Places.{rows_text}
use Rattle.dependency_lines.specs.declared.words.IndexFormat.TheVariants.{Number}
use Rattle.dependency_lines.specs.declared.names.Kind.{Kind}
use Rattle.dependency_lines.specs.declared.names.Kind.TheVariants.{There, Absent, Length, Records}

-- The number of records of a file, or `-` if it is not there.
abbrev pub count_text : Option ℕ → List ℕ
count_text None = codes " -"
count_text (Some n) = codes " " ++ decimal n

abbrev pub length_line : Option ℕ → Option ℕ → Key → List ℕ
length_line count step key = step_line (codes "length " ++ name_text key ++ count_text count) step

-- The first steps of the records of a file.
abbrev pub record_entries : Option Steps → List (Option ℕ)
record_entries None = []
record_entries (Some steps) = steps.entries

abbrev pub record_lines : Joining → FileSteps → Key → List ℕ
record_lines joining asked key =
    rows_text joining Number (codes "record " ++ name_text key) (rows_from joining (record_entries (steps_of asked.records.files key)) 0)

-- The lines of one kind about a file.
abbrev pub lines_of_name : Joining → Host → FileSteps → Kind → Key → List ℕ
lines_of_name joining host asked There key = if contains_key host key then step_line (codes "file " ++ name_text key) (get asked.has key) else []
lines_of_name joining host asked Absent key = if contains_key host key then [] else step_line (codes "none " ++ name_text key) (get asked.has key)
lines_of_name joining host asked Length key = length_line (option_map length (get host key)) (get asked.lengths key) key
lines_of_name joining host asked Records key = record_lines joining asked key

-- The steps of the records of each file that has one.
abbrev pub record_steps : RecordNotes → FinMap (slice_cmp nat_cmp) Steps
record_steps notes = from_entries notes.files

-- The keys about which this was asked, in order, and whether a key is one of them.
abbrev pub asked_keys : FileSteps → Kind → List Key
asked_keys asked There = keys asked.has
asked_keys asked Absent = keys asked.has
asked_keys asked Length = keys asked.lengths
asked_keys asked Records = keys (record_steps asked.records)

abbrev pub is_asked : FileSteps → Kind → Key → Bool
is_asked asked There key = contains_key asked.has key
is_asked asked Absent key = contains_key asked.has key
is_asked asked Length key = contains_key asked.lengths key
is_asked asked Records key = is_some (steps_of asked.records.files key)

-- The lines of one kind.
abbrev pub lines_of_kind : Joining → Host → FileSteps → Kind → List ℕ
lines_of_kind joining host asked kind = concat (map (lines_of_name joining host asked kind) (asked_keys asked kind))
