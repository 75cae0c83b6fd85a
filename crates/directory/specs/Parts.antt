-- Parts of the directory in the order of a search: the entries of one file from an extent on, the entries of the files above
-- a key, and the entry of one extent. (This project's own.)
use Rattle.std.specs.Prelude.{ℕ, ◌-◌, List, Option, Some, None, flat_map}
use Rattle.std.specs.List.{range_with_len, filter}
use Rattle.std.specs.FinMap.{get, entries}
use Rattle.keymaps.specs.Names.{Key}
use Rattle.keymaps.specs.Order.{is_above}
use Rattle.directory.specs.Entries.{Shape, Shapes, count_if_any, entries_at, entries_of}
use Rattle.directory.specs.declared.entry.Entry.{Entry}

-- The entries of a file's extents from n on.
unfoldable pub file_entries_from : Key → Option Shape → ℕ → List Entry
file_entries_from k v n = entries_at k (count_if_any v) (range_with_len n (512 - n))

-- The same for the file with a key, if there is one.
abbrev pub entries_from : Shapes → Key → ℕ → List Entry
entries_from m key n = file_entries_from key (get m key) n

-- The entries of the files above a key.
unfoldable pub entries_above : Option Key → Shapes → List Entry
entries_above after m = flat_map (λ e. entries_of e.0 e.1) (filter (λ e. is_above after e.0) (entries m))

-- The entry of an extent, if it has one.
abbrev pub entry_with_count : Key → ℕ → Option ℕ → Option Entry
entry_with_count key e None = None
entry_with_count key e (Some n) = Some (record { key = key; extent = e; count = n })
