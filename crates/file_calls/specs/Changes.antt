-- What a call does to files. ([Interface Guide 1979, functions 19, 21 to 23, 34 and 40]; holes between records, and which
-- host file a renamed file has: this project's profile.)
use Rattle.std.specs.Prelude.{List, Bool, true, false, [], ◌∷◌}
use Rattle.hostfiles.specs.Hosts.{Key, Record}
use Rattle.file_calls.specs.declared.finding.Write.{Write}

-- Whether a deletion names any file.
abbrev pub is_some_named : List Key → Bool
is_some_named [] = false
is_some_named (key ∷ keys) = true

-- A change of files: none, an empty file made, the files of some keys deleted, a file renamed, or a record stored.
pub data FileChange : Type 0 where
  Unchanged : FileChange
  Made : Key → FileChange
  Deleted : List Key → FileChange
  Renamed : Key → Key → FileChange
  Stored : Write → Record → FileChange
