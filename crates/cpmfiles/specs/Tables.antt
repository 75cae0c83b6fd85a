-- The calls of a table. ([Interface Guide 1979, functions 17, 19, 22 and 23]; what each asks of the host files, and which keys
-- it refuses: this project's profile.)
use Rattle.std.specs.Prelude.{◌≡◌, ℕ, List, Option, Bool, ◌&&◌, not, Some, None, length, filter, slice_index, if◌then◌else◌}
use Rattle.std.specs.Option.{option_map}
use Rattle.std.specs.Ordering.{nat_cmp, eq_by_cmp}
use Rattle.std.specs.Cmp.Lexicographic.{slice_cmp}
use Rattle.std.specs.FinMap.{get, entries}
use Rattle.hostfiles.specs.Names.{is_sayable}
use Rattle.hostfiles.specs.Entries.{Shapes, is_match, next_entry, entry_bytes, position_of, count_at}
use Rattle.hostfiles.specs.Hosts.{Key, Host}
use Rattle.hostfiles.specs.File.{shape_of}
use Rattle.hostfiles.specs.Files.{OwnFiles, has, gone_entry, shapes, file_of, entry_at}
use Rattle.hostfiles.specs.FileLooks.{look_has, look_directory}
use Rattle.hostfiles.specs.declared.looks.FileLooks.{FileLooks}
use Rattle.cpmfiles.specs.Renaming.{has_wildcard, is_rename}

-- The bytes of the first entry that matches, after the entry of the given bytes if there are any.
abbrev pub next_bytes : Key → ℕ → Option (List ℕ) → Shapes → Option (List ℕ)
next_bytes pattern ex after m =
    option_map entry_bytes (next_entry pattern ex (option_map (position_of (slice_index pattern 0)) after) m)

-- The record count of an extent of a file, if there is one: the index within the extent of its last record, plus one; 0 if it has
-- none.
abbrev pub extent_count : Host → OwnFiles → Key → ℕ → Option ℕ
extent_count host own key e = if has host own key then Some (count_at (shape_of (file_of host key (entry_at own key))) e) else None

abbrev pub can_make : Host → OwnFiles → Key → Bool
can_make host own key = is_sayable key && not (has host own key)

-- The looks after function 22: a valid key asks whether there is a file.
abbrev pub look_make : OwnFiles → Key → FileLooks → FileLooks
look_make own key l = if is_sayable key then look_has own key l else l

abbrev pub can_rename : Host → OwnFiles → Key → Key → Bool
can_rename host own old new = is_rename old new && has host own old && not (has host own new)

-- The looks after function 23: both keys are asked about, the old one first, whatever it answers.
abbrev pub look_rename : OwnFiles → Key → Key → FileLooks → FileLooks
look_rename own old new l = if is_rename old new then look_has own new (look_has own old l) else l

-- Whether a deletion names a key: a pattern with `?` names all keys that match, a pattern without one only itself.
abbrev pub is_named : Key → Key → Bool
is_named pattern q = if has_wildcard pattern then is_match pattern q else eq_by_cmp (slice_cmp nat_cmp) q pattern

-- The journal after a deletion: each named file that was there is gone, and all other entries are unchanged.
pub record NamedAreGone (host : Host) (own : OwnFiles) (pattern : Key) (after : OwnFiles) : Type 0 where
  pub at : (q : Key) → get after q ≡ (if is_named pattern q && has host own q then Some gone_entry else get own q)

-- The number of files that a deletion names.
abbrev pub count_deleted : Host → OwnFiles → Key → ℕ
count_deleted host own pattern =
    if has_wildcard pattern then length (filter (λ e. is_match pattern e.0) (entries (shapes host own)))
    else (if has host own pattern then 1 else 0)

-- The looks after function 19: a pattern with `?` asks about the directory of its drive, one without about its file.
abbrev pub look_delete : OwnFiles → Key → FileLooks → FileLooks
look_delete own pattern l = if has_wildcard pattern then look_directory (slice_index pattern 0) l else look_has own pattern l
