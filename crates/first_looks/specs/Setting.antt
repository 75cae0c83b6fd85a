-- Host files with one of them set or removed. (This project's own.)
use Rattle.std.specs.Prelude.{List, Option, Some, None}
use Rattle.std.specs.FinMap.{insert, remove}
use Rattle.hostfiles.specs.Hosts.{Key, Record, Host}

-- The host files with these records at the key, or without a file there.
abbrev pub with_file : Host → Key → Option (List Record) → Host
with_file host key None = remove host key
with_file host key (Some records) = insert host key records
