-- Which steps the change of a host file touches. (This project's own.)
use Rattle.std.specs.Prelude.{◌≡◌, ◌<◌, ◌≤◌, ◌⊎◌, ℕ, List, [], Option, Some, length, option_map, unwrap_or, slice_get}
use Rattle.hostfiles.specs.Hosts.{Key, Record, Host}
use Rattle.hostfiles.specs.declared.looks.Ask.{Ask}
use Rattle.file_calls.specs.HostTrees.{host_answers}
use Rattle.first_looks.specs.declared.file_steps.FileSteps.{FileSteps}
use Rattle.first_looks.specs.RecordSteps.{step_of_record}
use Rattle.first_looks.specs.FileSteps.{step_of_ask}

-- The first step of a question that the new host files answer differently, or `least`.
pub record IsFileTouch (old new : Host) (steps : FileSteps) (least touch : ℕ) : Type 0 where
  pub within : touch ≤ least
  pub below : (q : Ask) (m : ℕ) → step_of_ask steps q ≡ Some m → m < touch → host_answers old q ≡ host_answers new q
  pub here : (touch ≡ least) ⊎ ((q : Ask) × (step_of_ask steps q ≡ Some touch) × (host_answers old q ≡ host_answers new q → ⊥))

-- The length of a file in records, if it is there.
abbrev pub length_of : Option (List Record) → Option ℕ
length_of file = option_map length file

-- The length of a file in records; 0 if it is not there.
abbrev pub count_of : Option (List Record) → ℕ
count_of file = length (unwrap_or file [])

-- The record at a record number; a file that is not there has none.
abbrev pub record_of : Option (List Record) → ℕ → Option Record
record_of file k = slice_get (unwrap_or file []) k

-- The first step of a record of the key that is different in the two files, or `least`.
pub record IsRecordTouch (key : Key) (old new : Option (List Record)) (steps : FileSteps) (least touch : ℕ) : Type 0 where
  pub within : touch ≤ least
  pub below : (k m : ℕ) → step_of_record steps.records key k ≡ Some m → m < touch → record_of old k ≡ record_of new k
  pub here : (touch ≡ least) ⊎ ((k : ℕ) × (step_of_record steps.records key k ≡ Some touch) × (record_of old k ≡ record_of new k → ⊥))
