-- Host files. ([Interface Guide 1979, operating system call conventions]: a record has 128 bytes, a file at most 65,536
-- records, and 1AH ends a text; that 1AH pads the last record, and that there are at most 512 files: this project's profile.)
pub use Rattle.filenames.specs.Names.{Key}
pub use Rattle.records.specs.Records.{Record}
use Rattle.filenames.specs.Names.{is_sayable}
use Rattle.std.specs.Prelude.{◌≡◌, ◌≤◌, ℕ, ◌+◌, ◌-◌, ◌*◌, ◌/◌, Bool, true, ◌||◌, List, ◌++◌, length, map, take, drop, replicate, nat_lt, if◌then◌else◌, Option, Some, None}
use Rattle.std.specs.Ordering.{nat_cmp}
use Rattle.std.specs.List.{range_with_len}
use Rattle.std.specs.Cmp.Lexicographic.{slice_cmp}
use Rattle.std.specs.FinMap.{FinMap, get, contains_key, len}

-- The records of each host file, by key.
abbrev pub Host : Type 0
Host = FinMap (slice_cmp nat_cmp) (List Record)

abbrev pub padded_record : List ℕ → Record
padded_record piece = piece ++ replicate (128 - length piece) 26

-- The record with number i of a file with these bytes.
abbrev pub padded_record_at : List ℕ → ℕ → Record
padded_record_at bytes i = padded_record (take 128 (drop (128 * i) bytes))

-- All records of a file with these bytes.
abbrev pub records_in : List ℕ → List Record
records_in bytes = map (padded_record_at bytes) (range_with_len 0 ((length bytes + 127) / 128))

-- Whether a file with this key can be set: there is one already, or there are fewer than 512 files.
abbrev pub has_room : Host → Key → Bool
has_room host key = contains_key host key || nat_lt (len host) 512

-- The number of the refusal of a file that is to be set, if it is refused.
abbrev pub refusal_of : Host → Key → List ℕ → Option ℕ
refusal_of host key bytes =
    if nat_lt 8388608 (length bytes) then Some 1
    else if has_room host key then None
    else Some 2

-- At most 512 files with valid keys, each with at most 65,536 records.
pub record IsHost (host : Host) : Type 0 where
  pub few : len host ≤ 512
  pub sayable : (q : Key) → contains_key host q ≡ true → is_sayable q ≡ true
  pub short : (q : Key) (f : List Record) → get host q ≡ Some f → length f ≤ 65536
