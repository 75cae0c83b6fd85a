-- Which questions about files are passed on to the host files, and how the answers of the host files determine the answers of the
-- current files. (This project's profile.)
use Rattle.std.specs.Prelude.{◌≡◌, ℕ, ◌≤◌, Bool, true, false, ◌&&◌, ◌||◌, List, length, map, filter, replicate, Option, Some, None, is_some, unwrap_or, option_map, slice_get, slice_index, nat_lt}
use Rattle.std.specs.List.{range_with_len}
use Rattle.std.specs.FinMap.{get, contains_key, entries, from_entries}
use Rattle.interaction_trees.specs.Tree.{Tree, Return, Query}
use Rattle.hostfiles.specs.Entries.{Shape}
use Rattle.hostfiles.specs.Records.{zeros}
use Rattle.hostfiles.specs.Hosts.{Key, Record, Host}
use Rattle.hostfiles.specs.Files.{OwnFiles, entry_at, length_at, base_records, base_key, host_records, is_host_part, length_by, shapes}
use Rattle.hostfiles.specs.declared.journal.Base.{Base}
use Rattle.hostfiles.specs.declared.journal.Base.TheVariants.{Same, Gone, New, Moved}
use Rattle.hostfiles.specs.declared.journal.Growth.{Growth}
use Rattle.hostfiles.specs.declared.journal.Entry.{Entry}
use Rattle.hostfiles.specs.declared.looks.Ask.{Ask}
use Rattle.hostfiles.specs.declared.looks.Ask.TheVariants.{Has, Length, Rec, Directory}
use Rattle.file_calls.specs.Changes.{FileChange, Unchanged, Made, Deleted, Renamed, Stored}
use Rattle.file_calls.specs.FileQuestions.{FileQuestion, FileAnswer, IsThere, ShapeOf, Content, FilesOn, is_on, files_on}

-- The answer of the host files: whether there is a host file; its length in records, if it is there; a record, if it has it; the
-- host files of a drive with their lengths.
abbrev pub HostAnswer : Ask → Type 0
HostAnswer (Has key) = Bool
HostAnswer (Length key) = Option ℕ
HostAnswer (Rec key k) = Option Record
HostAnswer (Directory drive) = List (Key × ℕ)

abbrev pub HostTree : Type 0 → Type 0
HostTree E = Tree Ask HostAnswer E

unfoldable pub names_on : ℕ → Host → List (Key × ℕ)
names_on drive host = map (λ e. (e.0, length e.1)) (filter (λ e. is_on drive e.0) (entries host))

-- The answers of host files.
abbrev pub host_answers : Host → (q : Ask) → HostAnswer q
host_answers host (Has key) = contains_key host key
host_answers host (Length key) = option_map length (get host key)
host_answers host (Rec key k) = slice_get (host_records host (Some key)) k
host_answers host (Directory drive) = names_on drive host

-- A file that was made, deleted or renamed needs no question whether it is there.
abbrev pub there_tree : Key → Base → HostTree Bool
there_tree key Same = Query (Has key) (λ there. Return there)
there_tree key Gone = Return false
there_tree key New = Return true
there_tree key (Moved old) = Return true

-- Whether a file has a record at a record number: a written one, or one of the n records of its host file.
abbrev pub has_record_at : ℕ → Entry → ℕ → Bool
has_record_at n e k = is_some (get e.records k) || (is_host_part k e.grown && nat_lt k n)

unfoldable pub shape_with : ℕ → Entry → Shape
shape_with n e = map (has_record_at n e) (range_with_len 0 (length_by n e.grown))

-- The shape of a file. A file that was made longer knows how many records of its host file it has; any other file asks for the
-- length of its host file, if it has one. A renamed file has the host file of its old key.
abbrev pub shape_tree : Key → Base → Option Growth → Entry → HostTree Shape
shape_tree key base (Some g) e = Return (shape_with g.host_end e)
shape_tree key Same None e = Query (Length key) (λ n. Return (shape_with (unwrap_or n 0) e))
shape_tree key Gone None e = Return (shape_with 0 e)
shape_tree key New None e = Return (shape_with 0 e)
shape_tree key (Moved old) None e = Query (Length old) (λ n. Return (shape_with (unwrap_or n 0) e))

abbrev pub host_record_tree : Key → ℕ → Base → HostTree (Option Record)
host_record_tree key k Same = Query (Rec key k) (λ r. Return r)
host_record_tree key k Gone = Return None
host_record_tree key k New = Return None
host_record_tree key k (Moved old) = Query (Rec old k) (λ r. Return r)

-- The record at a record number: a written record, or a hole that a write past the end left, needs no question.
abbrev pub record_tree : Key → ℕ → Base → Option Record → Bool → HostTree (Option Record)
record_tree key k base (Some r) below = Return (Some r)
record_tree key k base None true = host_record_tree key k base
record_tree key k base None false = Return None

-- Host files with these lengths, of zeros.
abbrev pub hosts_with : List (Key × ℕ) → Host
hosts_with names = from_entries (map (λ p. (p.0, replicate p.1 zeros)) names)

-- The questions to the host files, and the answer that they make, for a question about the files after a run did this.
abbrev pub host_tree : OwnFiles → (q : FileQuestion) → HostTree (FileAnswer q)
host_tree own (IsThere key) = there_tree key (entry_at own key).base
host_tree own (ShapeOf key) = shape_tree key (entry_at own key).base (entry_at own key).grown (entry_at own key)
host_tree own (Content key k) = record_tree key k (entry_at own key).base (get (entry_at own key).records k) (is_host_part k (entry_at own key).grown)
host_tree own (FilesOn drive) = Query (Directory drive) (λ names. Return (files_on drive (shapes (hosts_with names) own)))

-- In a file that was made longer, the number from which on no record is the host file's; 0 for any other file.
abbrev pub host_end_of : Option Growth → ℕ
host_end_of None = 0
host_end_of (Some g) = g.host_end

-- In a file that was made longer, the number from which on no record is the host file's is at most the host file's length; and a
-- file and its host file are on the same drive.
pub record IsSoundEntry (host : Host) (key : Key) (e : Entry) : Type 0 where
  pub grown : host_end_of e.grown ≤ length (base_records host key e)
  pub drive : (old : Key) → base_key key e.base ≡ Some old → slice_index old 0 ≡ slice_index key 0

pub record AreSoundOwnFiles (host : Host) (own : OwnFiles) : Type 0 where
  pub at : (key : Key) → IsSoundEntry host key (entry_at own key)

-- A change that keeps what a run did sound: a rename stays on its drive, and a write has the length of its file.
abbrev pub IsFitting : Host → OwnFiles → FileChange → Type 0
IsFitting host own Unchanged = Unit {0}
IsFitting host own (Made key) = Unit {0}
IsFitting host own (Deleted keys) = Unit {0}
IsFitting host own (Renamed old new) = slice_index old 0 ≡ slice_index new 0
IsFitting host own (Stored w r) = w.length ≡ length_at host own w.key
