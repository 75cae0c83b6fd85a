-- The directory, entry by entry. ([Interface Guide 1979, file control blocks and functions 17 to 19]; the order of entries,
-- bytes 12 to 31 of an entry, and extents with holes: this project's profile.)
use Rattle.std.specs.Prelude.{ℕ, ◌+◌, ◌*◌, ◌/◌, ◌%◌, Bool, true, false, ◌&&◌, ◌||◌, ◌==◌, List, [], ◌∷◌, ◌++◌, Option, Some, None, nat_lt, if◌then◌else◌, take, drop, replicate, slice_index, flat_map, find}
use Rattle.std.specs.Ordering.{nat_cmp, is_lt, is_eq}
use Rattle.std.specs.List.{range_with_len}
use Rattle.std.specs.Cmp.Lexicographic.{slice_cmp}
use Rattle.std.specs.FinMap.{FinMap, entries}
use Rattle.keymaps.specs.Names.{Key}
use Rattle.directory.specs.declared.entry.Entry.{Entry}
use Rattle.directory.specs.declared.entry.Position.{Position}

-- The shape of a file: for each record number below its length whether it has a record.
abbrev pub Shape : Type 0
Shape = List Bool

-- The shapes of the files of all drives, by key.
abbrev pub Shapes : Type 0
Shapes = FinMap (slice_cmp nat_cmp) Shape

-- The greatest index with a record, plus one; 0 if there is no record.
abbrev pub count_of : Shape → ℕ
count_of [] = 0
count_of (b ∷ bs) = if nat_lt 0 (count_of bs) then count_of bs + 1 else (if b then 1 else 0)

-- The same within an extent of 128 records.
abbrev pub count_at : Shape → ℕ → ℕ
count_at s e = count_of (take 128 (drop (128 * e) s))

-- The count of an extent's entry, or none if it has no entry. A file of length 0 has an entry for extent 0.
abbrev pub count_in : Shape → ℕ → Option ℕ
count_in [] e = if e == 0 then Some 0 else None
count_in (b ∷ bs) e = if nat_lt 0 (count_at (b ∷ bs) e) then Some (count_at (b ∷ bs) e) else None

-- The same if there may be no file.
abbrev pub count_if_any : Option Shape → ℕ → Option ℕ
count_if_any None e = None
count_if_any (Some s) e = count_in s e

-- An entry with this count and then the others, or only the others without a count.
abbrev pub with_entry : Key → ℕ → Option ℕ → List Entry → List Entry
with_entry key e None rest = rest
with_entry key e (Some n) rest = record { key = key; extent = e; count = n } ∷ rest

-- The entries of these extents of a file.
abbrev pub entries_at : Key → (ℕ → Option ℕ) → List ℕ → List Entry
entries_at key count [] = []
entries_at key count (e ∷ es) = with_entry key e (count e) (entries_at key count es)

-- The entries of a file, by extent.
unfoldable pub entries_of : Key → Shape → List Entry
entries_of key s = entries_at key (count_in s) (range_with_len 0 512)

-- Files by key, in order, each with its shape.
abbrev pub Listing : Type 0
Listing = List (Key × Shape)

-- All entries of these files, by key.
abbrev pub listing_entries : Listing → List Entry
listing_entries files = flat_map (λ e. entries_of e.0 e.1) files

abbrev pub directory : Shapes → List Entry
directory m = listing_entries (entries m)

-- Whether an entry is after a position, by key and then by extent. Every entry is after `None`.
abbrev pub is_after : Option Position → Entry → Bool
is_after None e = true
is_after (Some d) e = is_lt (slice_cmp nat_cmp d.key e.key) || (is_eq (slice_cmp nat_cmp d.key e.key) && nat_lt d.extent e.extent)

-- Whether a name matches a pattern, byte by byte; 63 is `?`.
abbrev pub fits_name : List ℕ → List ℕ → Bool
fits_name [] name = true
fits_name (p ∷ ps) [] = false
fits_name (p ∷ ps) (b ∷ bs) = (p == 63 || p == b) && fits_name ps bs

-- Whether a key matches a pattern: the same drive, and a name that matches.
abbrev pub is_match : Key → Key → Bool
is_match pattern key = slice_index pattern 0 == slice_index key 0 && fits_name (drop 1 pattern) (drop 1 key)

-- Whether an entry matches: its key does, and the extent byte is its extent or 63 (`?`).
abbrev pub matches : Key → ℕ → Entry → Bool
matches pattern ex e = is_match pattern e.key && (ex == 63 || ex == e.extent)

-- The first match among entries.
abbrev pub first_match : Key → ℕ → List Entry → Option Entry
first_match pattern ex es = find (matches pattern ex) es

-- The first match after a position, if there is one, among the entries of files.
abbrev pub next_among : Key → ℕ → Option Position → Listing → Option Entry
next_among pattern ex after files = find (λ e. is_after after e && matches pattern ex e) (listing_entries files)

abbrev pub next_entry : Key → ℕ → Option Position → Shapes → Option Entry
next_entry pattern ex after m = next_among pattern ex after (entries m)

-- ---- entries as bytes

-- The 32 bytes of an entry.
abbrev pub entry_bytes : Entry → List ℕ
entry_bytes e = 0 ∷ drop 1 e.key ++ (e.extent % 32) ∷ 0 ∷ (e.extent / 32) ∷ e.count ∷ replicate 16 0

-- The position of the entry with these bytes, on a drive.
abbrev pub position_of : ℕ → List ℕ → Position
position_of drive bytes = record { key = drive ∷ take 11 (drop 1 bytes); extent = slice_index bytes 12 + 32 * slice_index bytes 14 }
