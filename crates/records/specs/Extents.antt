-- The records in extents, by record number, and as one map. ([Interface Guide 1979, operating system call conventions]: an
-- extent is 128 records.)
use Rattle.std.specs.Prelude.{◌≡◌, refl, ℕ, zero, suc, ◌/◌, ◌%◌, ◌==◌, List, [], ◌∷◌, Bool, Option, Some, None, cond, get_or}
use Rattle.std.specs.FinMap as finmap
use Rattle.records.specs.Records.{Record, RecordMap}

-- The records that are marked; none if a mark is not set.
unfoldable pub records_by_marks : List Bool → List Record → List (Option Record)
records_by_marks [] records = []
records_by_marks (mark ∷ marks) [] = []
records_by_marks (mark ∷ marks) (content ∷ records) = cond mark (Some content) None ∷ records_by_marks marks records

-- The record at an index of an extent, if both are there.
abbrev pub record_in_extent : Option (List (Option Record)) → ℕ → Option Record
record_in_extent None i = None
record_in_extent (Some places) i = get_or places i None

-- The new extent has this record at an index, and is otherwise like the old one.
abbrev pub PutsRecord : List (Option Record) → ℕ → Record → List (Option Record) → Type 0
PutsRecord old at content new = (q : ℕ) → get_or new q None ≡ cond (q == at) (Some content) (get_or old q None)

-- Both extents have the same record at each index.
abbrev pub SameExtent : List (Option Record) → List (Option Record) → Type 0
SameExtent old new = (q : ℕ) → get_or new q None ≡ get_or old q None

-- The record with a number, by extents of 128.
unfoldable pub record_in_extents : List (Option (List (Option Record))) → ℕ → Option Record
record_in_extents extents place = record_in_extent (get_or extents (place / 128) None) (place % 128)

-- The maximum number of records in a file. A definition of its own, so that the prover does not count up to it.
pub record_limit : ℕ
record_limit = 65536

pub record_limit-is : record_limit ≡ 65536
unfolding record_limit
record_limit-is = refl

-- The records with one more, if there is one to add.
abbrev pub with_record_if_any : RecordMap → ℕ → Option Record → RecordMap
with_record_if_any m a None = m
with_record_if_any m a (Some r) = finmap.insert m a r

-- The records with numbers below n.
abbrev pub record_map_below : ℕ → (ℕ → Option Record) → RecordMap
record_map_below zero own = finmap.empty
record_map_below (suc n) own = with_record_if_any (record_map_below n own) n (own n)

-- The records of a file.
unfoldable pub record_map : (ℕ → Option Record) → RecordMap
record_map own = record_map_below record_limit own
