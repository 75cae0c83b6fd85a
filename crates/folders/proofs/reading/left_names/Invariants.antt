use Rattle.std.proofs.Common.{◌≡◌, map, take}
use Rattle.std.specs.Prelude.{string_bytes}
use Rattle.std.specs.List.{filter}
use Rattle.folders.specs.LeftNames.{is_left}
use Rattle.folders.proofs.reading.left_names.Given as goal

abbrev pub invariant-loop-name : goal.invariant-loop-name
invariant-loop-name l = map string_bytes l.left.items ≡ filter is_left (map string_bytes (take l.name-index l.names))
