-- The files of a machine as one map, whoever wrote them. (This project's profile.)
use Rattle.std.specs.Prelude.{List, [], ◌∷◌, map, filter, Some, None, unwrap_or, get_or}
use Rattle.std.specs.Option.{option_and_then}
use Rattle.std.specs.Ordering.{nat_cmp}
use Rattle.std.specs.Cmp.Lexicographic.{slice_cmp}
use Rattle.std.specs.FinMap.{FinMap, get, insert, remove, contains_key, entries, from_entries}
use Rattle.hostfiles.specs.Hosts.{Key, Record, Host}
use Rattle.hostfiles.specs.File.{File, shape_of, with_record}
use Rattle.file_calls.specs.FileQuestions.{FileAnswers, IsThere, ShapeOf, Content, FilesOn, is_on}
use Rattle.file_calls.specs.Changes.{FileChange, Unchanged, Made, Deleted, Renamed, Stored}

-- All files, by their keys.
abbrev pub Files : Type 0
Files = FinMap (slice_cmp nat_cmp) File

-- A host file as a file: it has no holes.
abbrev pub file_of_records : List Record → File
file_of_records records = map (λ r. Some r) records

-- The host files as files.
unfoldable pub loaded_files : Host → Files
loaded_files host = from_entries (map (λ e. (e.0, file_of_records e.1)) (entries host))

-- The file of a key; an empty one if there is none.
abbrev pub file_in : Files → Key → File
file_in files key = unwrap_or (get files key) []

-- The answers of files.
abbrev pub answers_of : Files → FileAnswers
answers_of files (IsThere key) = contains_key files key
answers_of files (ShapeOf key) = shape_of (file_in files key)
answers_of files (Content key k) = option_and_then (λ f. get_or f k None) (get files key)
answers_of files (FilesOn drive) = map (λ e. (e.0, shape_of e.1)) (filter (λ e. is_on drive e.0) (entries files))

-- The files without those of these keys.
abbrev pub without_keys : Files → List Key → Files
without_keys files [] = files
without_keys files (key ∷ keys) = without_keys (remove files key) keys

-- The files after the change of a call.
abbrev pub files_after : FileChange → Files → Files
files_after Unchanged files = files
files_after (Made key) files = insert files key []
files_after (Deleted keys) files = without_keys files keys
files_after (Renamed old new) files = insert (remove files old) new (file_in files old)
files_after (Stored w r) files = insert files w.key (with_record w.gap w.place r (file_in files w.key))
