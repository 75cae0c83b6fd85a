-- The files that a program sees: what a run did to them, laid over the host files. (This project's profile.)
use Rattle.std.specs.Prelude.{ℕ, ◌+◌, ◌-◌, Bool, true, false, ◌&&◌, List, [], ◌∷◌, ◌++◌, length, map, Option, Some, None, unwrap_or, slice_get, nat_lt, if◌then◌else◌, option_map}
use Rattle.std.specs.Ordering.{nat_cmp}
use Rattle.std.specs.List.{range_with_len}
use Rattle.std.specs.Cmp.Lexicographic.{slice_cmp}
use Rattle.std.specs.FinMap.{FinMap, get, insert, empty, contains_key, keys}
use Rattle.directory.specs.Entries.{Shape, Shapes}
use Rattle.filenames.specs.Names.{is_sayable}
use Rattle.records.specs.Records.{RecordMap, zeros_at}
use Rattle.hostfiles.specs.Hosts.{Key, Record, Host}
use Rattle.hostfiles.specs.declared.journal.Base.{Base}
use Rattle.hostfiles.specs.declared.journal.Base.TheVariants.{Same, Gone, New, Moved}
use Rattle.hostfiles.specs.declared.journal.Gap.{Gap}
use Rattle.hostfiles.specs.declared.journal.Gap.TheVariants.{Holes, Zeros}
use Rattle.hostfiles.specs.declared.journal.Growth.{Growth}
use Rattle.hostfiles.specs.declared.journal.Entry.{Entry}
use Rattle.hostfiles.specs.File.{File, contents_of, shape_of}

-- What a run did to files, by key. Nothing was done to a file without an entry.
abbrev pub OwnFiles : Type 0
OwnFiles = FinMap (slice_cmp nat_cmp) Entry

-- ---- one file

-- The key of the host file that a file comes from.
abbrev pub base_key : Key → Base → Option Key
base_key key Same = Some key
base_key key Gone = None
base_key key New = None
base_key key (Moved old) = Some old

abbrev pub host_file : Host → Option Key → Option (List Record)
host_file host None = None
host_file host (Some key) = get host key

abbrev pub host_records : Host → Option Key → List Record
host_records host None = []
host_records host (Some key) = unwrap_or (get host key) []

-- The records of the host file that a file comes from.
abbrev pub base_records : Host → Key → Entry → List Record
base_records host key e = host_records host (base_key key e.base)

abbrev pub is_there : Host → Key → Base → Bool
is_there host key Same = contains_key host key
is_there host key Gone = false
is_there host key New = true
is_there host key (Moved old) = true

abbrev pub length_by : ℕ → Option Growth → ℕ
length_by n None = n
length_by n (Some g) = g.length

-- Whether the host file's record with number k counts. If the file has grown, it counts only below `host_end`.
abbrev pub is_host_part : ℕ → Option Growth → Bool
is_host_part k None = true
is_host_part k (Some g) = nat_lt k g.host_end

-- The record with number k, from the host file's records, the record that was written with this number, and whether the host
-- file's record counts. A record number between the old end and a write past it is a hole.
abbrev pub written_or_host_record : List Record → ℕ → Option Record → Bool → Option Record
written_or_host_record host k (Some r) b = Some r
written_or_host_record host k None true = slice_get host k
written_or_host_record host k None false = None

-- The number from which on no record is the host file's, after a file of length n grew.
abbrev pub host_end_after_growth : ℕ → Option Growth → ℕ
host_end_after_growth n None = n
host_end_after_growth n (Some g) = g.host_end

abbrev pub length_of : Host → Key → Entry → ℕ
length_of host key e = length_by (length (base_records host key e)) e.grown

abbrev pub record_or_hole : Host → Key → Entry → ℕ → Option Record
record_or_hole host key e k = written_or_host_record (base_records host key e) k (get e.records k) (is_host_part k e.grown)

abbrev pub file_of : Host → Key → Entry → File
file_of host key e = map (record_or_hole host key e) (range_with_len 0 (length_of host key e))

-- ---- what a run did

-- Nothing was done to the file.
abbrev pub untouched_entry : Entry
untouched_entry = record { base = Same; grown = None; records = empty }

abbrev pub entry_at : OwnFiles → Key → Entry
entry_at own key = unwrap_or (get own key) untouched_entry

-- A file that was made.
abbrev pub new_entry : Entry
new_entry = record { base = New; grown = Some (record { host_end = 0; length = 0 }); records = empty }

-- A file that is gone.
abbrev pub gone_entry : Entry
gone_entry = record { base = Gone; grown = None; records = empty }

abbrev pub base_renamed_from : Key → Base → Base
base_renamed_from key Same = Moved key
base_renamed_from key Gone = Gone
base_renamed_from key New = New
base_renamed_from key (Moved old) = Moved old

-- The entry of the file under another key, after a rename from this key.
abbrev pub renamed_from : Key → Entry → Entry
renamed_from key e = record { base = base_renamed_from key e.base; grown = e.grown; records = e.records }

-- The growth after record k of a file of length n is written: the new length, and the number from which on no record is the
-- host file's.
abbrev pub growth_after : ℕ → ℕ → Option Growth → Option Growth
growth_after n k g = if nat_lt k n then g else Some (record { host_end = host_end_after_growth n g; length = k + 1 })

-- The records with those of the gap from the end of a file of length n up to k, if k is past the end.
abbrev pub records_with_gap : Gap → ℕ → ℕ → RecordMap → RecordMap
records_with_gap Holes n k m = m
records_with_gap Zeros n k m = if nat_lt n k then zeros_at m n (k - n) else m

-- The entry after record k of a file of length n is written.
abbrev pub entry_after_write : Gap → ℕ → ℕ → Record → Entry → Entry
entry_after_write gap n k r e = record { base = e.base; grown = growth_after n k e.grown; records = insert (records_with_gap gap n k e.records) k r }

abbrev pub after_make : OwnFiles → Key → OwnFiles
after_make own key = insert own key new_entry

abbrev pub after_delete : OwnFiles → Key → OwnFiles
after_delete own key = insert own key gone_entry

abbrev pub after_rename : OwnFiles → Key → Key → OwnFiles
after_rename own old new = insert (insert own old gone_entry) new (renamed_from old (entry_at own old))

-- Record k of a file of length n is written.
abbrev pub after_write : Gap → ℕ → OwnFiles → Key → ℕ → Record → OwnFiles
after_write gap n own key k r = insert own key (entry_after_write gap n k r (entry_at own key))

-- ---- the files that result from both

abbrev pub has : Host → OwnFiles → Key → Bool
has host own key = is_there host key (entry_at own key).base

abbrev pub length_at : Host → OwnFiles → Key → ℕ
length_at host own key = length_of host key (entry_at own key)

abbrev pub record_below_length : Host → OwnFiles → Key → ℕ → Option Record
record_below_length host own key k = if nat_lt k (length_at host own key) then record_or_hole host key (entry_at own key) k else None

abbrev pub file_at : Host → OwnFiles → Key → Option File
file_at host own key = if has host own key then Some (file_of host key (entry_at own key)) else None

abbrev pub records : Host → OwnFiles → Key → Option ℕ
records host own key = if has host own key then Some (length_at host own key) else None

-- The record with number k, if the file is there, is long enough and has no hole there.
abbrev pub record_if_there : Host → OwnFiles → Key → ℕ → Option Record
record_if_there host own key k = if has host own key then record_below_length host own key k else None

-- The contents of the file with a key, if there is one.
abbrev pub file_contents : Host → OwnFiles → Key → Option (List Record)
file_contents host own key = option_map contents_of (file_at host own key)

-- Whether there is a file with this key, and the key is valid.
abbrev pub is_listed : Host → OwnFiles → Key → Bool
is_listed host own key = has host own key && is_sayable key

-- The map of f at the keys of a list.
abbrev pub map_from_keys : {X : Type 0} → (Key → Option X) → List Key → FinMap (slice_cmp nat_cmp) X
map_from_keys f [] = empty
map_from_keys f (key ∷ ks) = unwrap_or (option_map (insert (map_from_keys f ks) key) (f key)) (map_from_keys f ks)

-- All files.
unfoldable pub files : Host → OwnFiles → FinMap (slice_cmp nat_cmp) File
files host own = map_from_keys (file_at host own) (keys host ++ keys own)

abbrev pub shape_at : Host → OwnFiles → Key → Option Shape
shape_at host own key = option_map shape_of (file_at host own key)

-- The shapes of all files.
unfoldable pub shapes : Host → OwnFiles → Shapes
shapes host own = map_from_keys (shape_at host own) (keys host ++ keys own)
