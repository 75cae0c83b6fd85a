-- A file: a list with a record, or none for a hole, at each record number. (This project's profile.)
use Rattle.std.specs.Prelude.{List, map, Option, unwrap_or, is_some, ℕ, ◌+◌, ◌-◌, ◌++◌, length, replicate, slice_set, Some, None, Bool, true, false}
use Rattle.std.specs.Str.{bytes_eq}
use Rattle.std.specs.Cmp.Lexicographic.{pointwise}
use Rattle.directory.specs.Entries.{Shape}
use Rattle.records.specs.Records.{zeros}
use Rattle.hostfiles.specs.Hosts.{Record}
use Rattle.hostfiles.specs.declared.journal.Gap.{Gap}
use Rattle.hostfiles.specs.declared.journal.Gap.TheVariants.{Holes, Zeros}

-- The records of a file, with `None` for a hole.
abbrev pub File : Type 0
File = List (Option Record)

-- The record, or the hole, at each number of a gap.
abbrev pub gap_record : Gap → Option Record
gap_record Holes = None
gap_record Zeros = Some zeros

-- The file after record k is written. A file that is too short is first made longer by the gap.
abbrev pub with_record : Gap → ℕ → Record → File → File
with_record gap k r f = slice_set (f ++ replicate (k + 1 - length f) (gap_record gap)) k (Some r)

-- The contents of a file: its records, with zeros in its holes.
abbrev pub contents_of : File → List Record
contents_of file = map (λ r. unwrap_or r zeros) file

-- The shape of a file: for each record number whether there is a record.
abbrev pub shape_of : File → Shape
shape_of f = map is_some f

-- Whether neither is there, or both are and have the same records.
abbrev pub is_same : Option (List Record) → Option (List Record) → Bool
is_same None None = true
is_same None (Some b) = false
is_same (Some a) None = false
is_same (Some a) (Some b) = pointwise bytes_eq a b
