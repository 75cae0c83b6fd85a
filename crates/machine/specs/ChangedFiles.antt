-- The files of a machine as reports show them, and which of them differ from the host files: this project's profile. Only records are
-- compared: a file that was deleted and made again with the same records is not changed.
use Rattle.std.specs.Prelude.{Bool, not, ◌&&◌, List, ◌++◌, map, Option}
use Rattle.std.specs.Option.{option_map}
use Rattle.std.specs.Ordering.{nat_cmp}
use Rattle.std.specs.Cmp.Lexicographic.{slice_cmp}
use Rattle.std.specs.FinMap.{FinMap, get, keys, from_entries, retain_keys}
use Rattle.hostfiles.specs.Names.{is_sayable}
use Rattle.hostfiles.specs.Hosts.{Key, Record, Host}
use Rattle.hostfiles.specs.File.{contents_of}
use Rattle.hostfiles.specs.File.{is_same}
use Rattle.machine.specs.PlainFiles.{Files}

-- The records of the file of a key, if there is one, with zeros for a hole.
abbrev pub contents_in : Files → Key → Option (List Record)
contents_in files key = option_map contents_of (get files key)

-- Whether the records of the file of a key differ from those of the host file.
abbrev pub is_changed_in : Host → Files → Key → Bool
is_changed_in host files key = not (is_same (contents_in files key) (get host key))

-- Whether a key is valid and its file is changed.
abbrev pub is_changed_name_in : Host → Files → Key → Bool
is_changed_name_in host files key = is_changed_in host files key && is_sayable key

-- The keys of the host files and of the files.
abbrev pub keys_of_both : Host → Files → FinMap (slice_cmp nat_cmp) (Unit {0})
keys_of_both host files = from_entries (map (λ key. (key, tt)) (keys host ++ keys files))

-- The changed names.
abbrev pub changed_in : Host → Files → FinMap (slice_cmp nat_cmp) (Unit {0})
changed_in host files = retain_keys (keys_of_both host files) (is_changed_name_in host files)

-- The keys of the changed names, in order.
abbrev pub changed_keys_in : Host → Files → List Key
changed_keys_in host files = keys (changed_in host files)
