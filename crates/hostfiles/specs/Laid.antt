-- How the map of all files changes by the operations of a run. (This project's profile.)
use Rattle.std.specs.Prelude.{◌≡◌, ℕ, ◌≤◌, [], length, get_or, Some, None}
use Rattle.std.specs.Option.{option_map, option_and_then}
use Rattle.std.specs.FinMap.{insert, remove, empty, get}
use Rattle.hostfiles.specs.Hosts.{Key, Record, Host}
use Rattle.hostfiles.specs.Files.{OwnFiles, entry_at, record_or_hole, length_at, file_at, records, record_if_there, files, after_make, after_delete, after_rename, after_write}
use Rattle.hostfiles.specs.File.{File, with_record}
use Rattle.hostfiles.specs.declared.journal.Gap.{Gap}
use Rattle.hostfiles.specs.declared.journal.Gap.TheVariants.{Holes}

-- The file with this key has no record at or past its end.
abbrev pub HasNoRecordPastEnd : Host → OwnFiles → Key → Type 0
HasNoRecordPastEnd host own key = (p : ℕ) → length_at host own key ≤ p → record_or_hole host key (entry_at own key) p ≡ None

-- Laid over the host files, what a run did is the map of all files, and each operation changes this map only at the keys that
-- it names.
pub record FilesAreLaid (host : Host) (own : OwnFiles) : Type 0 where
  pub at : (key : Key) → get (files host own) key ≡ file_at host own key
  pub counted : (key : Key) → records host own key ≡ option_map length (get (files host own) key)
  pub read : (key : Key) (k : ℕ) → record_if_there host own key k ≡ option_and_then (λ f. get_or f k None) (get (files host own) key)
  pub made_one : (key : Key) → files host (after_make own key) ≡ insert (files host own) key []
  pub deleted_one : (key : Key) → files host (after_delete own key) ≡ remove (files host own) key
  pub written_one : (gap : Gap) (key : Key) (k : ℕ) (r : Record) (f : File) → (gap ≡ Holes → HasNoRecordPastEnd host own key) → get (files host own) key ≡ Some f
      → files host (after_write gap (length_at host own key) own key k r) ≡ insert (files host own) key (with_record gap k r f)
  pub renamed_one : (old new : Key) (f : File) → get (files host own) old ≡ Some f
      → files host (after_rename own old new) ≡ insert (remove (files host own) old) new f

-- No file has a record at or past its end: this holds if nothing was done, and each operation of a run keeps it.
pub record HaveNoRecordPastEnd (host : Host) : Type 0 where
  pub start : (q : Key) → HasNoRecordPastEnd host empty q
  pub made_one : (own : OwnFiles) → ((q : Key) → HasNoRecordPastEnd host own q) → (key q : Key) → HasNoRecordPastEnd host (after_make own key) q
  pub deleted_one : (own : OwnFiles) → ((q : Key) → HasNoRecordPastEnd host own q) → (key q : Key) → HasNoRecordPastEnd host (after_delete own key) q
  pub written_one : (own : OwnFiles) → ((q : Key) → HasNoRecordPastEnd host own q) → (gap : Gap) (key : Key) (k : ℕ) (r : Record) (q : Key) → HasNoRecordPastEnd host (after_write gap (length_at host own key) own key k r) q
  pub renamed_one : (own : OwnFiles) → ((q : Key) → HasNoRecordPastEnd host own q) → (old new q : Key) → HasNoRecordPastEnd host (after_rename own old new) q
