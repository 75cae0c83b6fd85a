-- What each file call asks about the files, and what it finds. ([Interface Guide 1979, functions 15 to 23, 33 to 36 and 40]; the
-- values of the calls, and files with holes, are this project's profile.)
use Rattle.std.specs.Prelude.{ℕ, ◌+◌, ◌/◌, ◌==◌, ◌&&◌, Bool, true, false, not, List, [], ◌∷◌, length, filter, map, Option, Some, None, nat_lt, if◌then◌else◌, slice_index}
use Rattle.interaction_trees.specs.Tree.{Return, Query}
use Rattle.hostfiles.specs.Drives.{drive_number}
use Rattle.hostfiles.specs.Names.{is_sayable}
use Rattle.hostfiles.specs.ControlBlock.{name_at, place_of, random_place_of}
use Rattle.hostfiles.specs.Entries.{Shape, Listing, count_at, next_among, position_of, entry_bytes, is_match}
use Rattle.hostfiles.specs.Entry.{Entry}
use Rattle.hostfiles.specs.Position.{Position}
use Rattle.hostfiles.specs.Hosts.{Key, Record}
use Rattle.hostfiles.specs.declared.journal.Gap.{Gap}
use Rattle.hostfiles.specs.declared.journal.Gap.TheVariants.{Holes, Zeros}
use Rattle.cpmfiles.specs.Renaming.{has_wildcard, is_rename}
use Rattle.file_calls.specs.declared.block.Block.{Block}
use Rattle.file_calls.specs.declared.function.FileFunction.{FileFunction}
use Rattle.file_calls.specs.declared.function.FileFunction.TheVariants.{Open, Close, SearchFirst, ReadSequential, WriteSequential, Make, Rename, ReadRandom, WriteRandom, FileSize, SetRandomRecord, WriteRandomZeroFill}
use Rattle.hostfiles.specs.Search.{Search}
use Rattle.file_calls.specs.declared.finding.Write.{Write}
use Rattle.file_calls.specs.declared.finding.Finding.{Finding}
use Rattle.file_calls.specs.declared.finding.Finding.TheVariants as finding
use Rattle.file_calls.specs.FileQuestions.{FileTree, IsThere, ShapeOf, Content, FilesOn}

-- The key at bytes 1 to 11 of a control block, and the new key of a rename, at bytes 17 to 27.
abbrev pub key_of : Block → Key
key_of b = drive_number b.drive ∷ name_at b.fcb 1

abbrev pub new_key_of : Block → Key
new_key_of b = drive_number b.drive ∷ name_at b.fcb 17

-- The value of a call that finds no file.
abbrev pub absent_value : Finding
absent_value = finding.Value 0xff

-- A call that first asks whether its file is there, and returns 0FFH if it is not.
abbrev pub if_there : Key → FileTree Finding → FileTree Finding
if_there key t = Query (IsThere key) (λ there. if there then t else Return absent_value)

-- Function 15 finds the record count of the extent that the control block names.
abbrev pub open_file : Block → FileTree Finding
open_file b = if_there (key_of b) (Query (ShapeOf (key_of b)) (λ s. Return (finding.Opened (count_at s (slice_index b.fcb 12)))))

-- Function 16 changes nothing.
abbrev pub close_file : Block → FileTree Finding
close_file b = if_there (key_of b) (Return (finding.Value 0))

-- An entry that was found, and where the search continues.
abbrev pub entry_finding : Key → ℕ → Option Entry → Finding
entry_finding pattern ex None = finding.NoEntry
entry_finding pattern ex (Some e) = finding.FirstEntry (record { pattern = pattern; extent = ex; last = entry_bytes e })

abbrev pub search_finding : Key → ℕ → Option Position → FileTree Finding
search_finding pattern ex after = Query (FilesOn (slice_index pattern 0)) (λ files. Return (entry_finding pattern ex (next_among pattern ex after files)))

-- Function 17 finds the first matching entry.
abbrev pub search_first : Block → FileTree Finding
search_first b = search_finding (key_of b) (slice_index b.fcb 12) None

-- Function 18 finds the first matching entry after the one that was returned last, in the current files.
abbrev pub search_next : Option Search → FileTree Finding
search_next None = Return finding.NoEntry
search_next (Some s) = search_finding s.pattern s.extent (Some (position_of (slice_index s.pattern 0) s.last))

-- Function 19 deletes these keys; a pattern with `?` names all keys that match.
abbrev pub matching_keys : Key → Listing → List Key
matching_keys pattern files = filter (is_match pattern) (map (λ f. f.0) files)

abbrev pub deletion : Block → FileTree (List Key)
deletion b =
    if has_wildcard (key_of b) then Query (FilesOn (drive_number b.drive)) (λ files. Return (matching_keys (key_of b) files))
    else Query (IsThere (key_of b)) (λ there. Return (if there then key_of b ∷ [] else []))

-- The record that was found, or the value if there is none.
abbrev pub record_finding : ℕ → ℕ → Option Record → Finding
record_finding next value None = finding.Value value
record_finding next value (Some r) = finding.Found r next

-- Function 20 finds the record at the sequential record number, or 1 if there is none.
abbrev pub read_sequential : Block → FileTree Finding
read_sequential b = if_there (key_of b) (Query (ShapeOf (key_of b)) (λ s.
    if nat_lt (place_of b.fcb) (length s) then Query (Content (key_of b) (place_of b.fcb)) (λ r. Return (record_finding (place_of b.fcb + 1) 1 r))
    else Return (finding.Value 1)))

-- A record to be written at a record number of the file, whose length is asked for, and the record number that the control
-- block gets then.
abbrev pub write_finding : Block → ℕ → ℕ → Gap → FileTree Finding
write_finding b place next gap = Query (ShapeOf (key_of b)) (λ s. Return (finding.Write (record { key = key_of b; length = length s; place = place; next = next; gap = gap })))

-- Function 21 finds the record to be written; a file has at most 65,536 records.
abbrev pub write_sequential : Block → FileTree Finding
write_sequential b = if_there (key_of b) (if nat_lt (place_of b.fcb) 65536 then write_finding b (place_of b.fcb) (place_of b.fcb + 1) Holes else Return (finding.Value 2))

-- Function 22 finds the key, if it is valid and no file has it.
abbrev pub make_file : Block → FileTree Finding
make_file b =
    if is_sayable (key_of b) then Query (IsThere (key_of b)) (λ there. Return (if there then absent_value else finding.Make (key_of b)))
    else Return absent_value

-- Function 23 asks about both keys, whatever the first answers.
abbrev pub rename_file : Block → FileTree Finding
rename_file b =
    if is_rename (key_of b) (new_key_of b)
    then Query (IsThere (key_of b)) (λ there. Query (IsThere (new_key_of b)) (λ taken.
    Return (if there && not taken then finding.Rename (key_of b) (new_key_of b) else absent_value)))
    else Return absent_value

-- The value for a random record number without a record: 1 if its extent holds a record, else 4.
abbrev pub missing_value : Shape → ℕ → ℕ
missing_value s place = if count_at s (place / 128) == 0 then 4 else 1

-- A call that returns 6 for a random record number past 65,535.
abbrev pub if_in_range : Block → FileTree Finding → FileTree Finding
if_in_range b t = if_there (key_of b) (if slice_index b.fcb 35 == 0 then t else Return (finding.Value 6))

-- Function 33 finds the record at the random record number.
abbrev pub read_random : Block → FileTree Finding
read_random b = if_in_range b (Query (ShapeOf (key_of b)) (λ s.
    if nat_lt (random_place_of b.fcb) (length s) then Query (Content (key_of b) (random_place_of b.fcb)) (λ r. Return (record_finding (random_place_of b.fcb) (missing_value s (random_place_of b.fcb)) r))
    else Return (finding.Value (missing_value s (random_place_of b.fcb)))))

-- Functions 34 and 40 find the record to be written; function 40 writes zeros in the gap before it.
abbrev pub write_random : Gap → Block → FileTree Finding
write_random gap b = if_in_range b (write_finding b (random_place_of b.fcb) (random_place_of b.fcb) gap)

-- Function 35 finds the length.
abbrev pub file_size : Block → FileTree Finding
file_size b = Query (IsThere (key_of b)) (λ there. if there then Query (ShapeOf (key_of b)) (λ s. Return (finding.Length (length s))) else Return finding.NoLength)

-- Function 36 asks about no file.
abbrev pub set_random : Block → FileTree Finding
set_random b = Return (finding.RandomPlace (place_of b.fcb))

-- What each call asks and finds.
abbrev pub finding_of : FileFunction → Block → FileTree Finding
finding_of Open b = open_file b
finding_of Close b = close_file b
finding_of SearchFirst b = search_first b
finding_of ReadSequential b = read_sequential b
finding_of WriteSequential b = write_sequential b
finding_of Make b = make_file b
finding_of Rename b = rename_file b
finding_of ReadRandom b = read_random b
finding_of WriteRandom b = write_random Holes b
finding_of FileSize b = file_size b
finding_of SetRandomRecord b = set_random b
finding_of WriteRandomZeroFill b = write_random Zeros b

-- The number of bytes of its control block that a call reads: 36 if it has a random record number, else 33.
abbrev pub block_length : FileFunction → ℕ
block_length ReadRandom = 36
block_length WriteRandom = 36
block_length FileSize = 36
block_length SetRandomRecord = 36
block_length WriteRandomZeroFill = 36
block_length function = 33
