-- Which files a run left different from the host files: this project's profile. Only records are compared: a file that was
-- deleted and made again with the same records is not changed.
use Rattle.std.specs.Prelude.{◌≡◌, Bool, false, not, ◌&&◌, List}
use Rattle.std.specs.Ordering.{nat_cmp}
use Rattle.std.specs.Cmp.Lexicographic.{slice_cmp}
use Rattle.std.specs.FinMap.{FinMap, get, contains_key, keys, retain_keys}
use Rattle.filenames.specs.Names.{is_sayable}
use Rattle.hostfiles.specs.Hosts.{Key, Host}
use Rattle.hostfiles.specs.Files.{OwnFiles, file_contents}
use Rattle.hostfiles.specs.declared.journal.Entry.{Entry}
use Rattle.hostfiles.specs.File.{is_same}

-- Whether the contents of a file differ from its host file's.
abbrev pub is_changed : Host → OwnFiles → Key → Bool
is_changed host own key = not (is_same (file_contents host own key) (get host key))

-- Whether a file is changed and its key is valid.
abbrev pub is_changed_name : Host → OwnFiles → Key → Bool
is_changed_name host own key = is_changed host own key && is_sayable key

-- The changed files to which something was done, by key, if their keys are valid.
abbrev pub changed_names : Host → OwnFiles → FinMap (slice_cmp nat_cmp) Entry
changed_names host own = retain_keys own (is_changed_name host own)

-- The keys of the changed names, in order.
abbrev pub changed_keys : Host → OwnFiles → List Key
changed_keys host own = keys (changed_names host own)

-- These are all changed names: a file to which nothing was done is not changed.
abbrev pub AreAllChanged : Type 0
AreAllChanged = (host : Host) (own : OwnFiles) (key : Key) → contains_key (changed_names host own) key ≡ is_changed_name host own key

-- A file is unchanged if and only if its contents are its host file's.
abbrev pub ChangedIsOther : Type 0
ChangedIsOther = (host : Host) (own : OwnFiles) (key : Key) → (is_changed host own key ≡ false → file_contents host own key ≡ get host key) × (file_contents host own key ≡ get host key → is_changed host own key ≡ false)
