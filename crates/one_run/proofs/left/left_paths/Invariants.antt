use Rattle.std.proofs.Common.{◌≡◌, map, take, string_bytes}
use Rattle.one_run.specs.Left.{left_on}
use Rattle.one_run.proofs.left.left_paths.Given as goal

abbrev pub invariant-loop-disk : goal.invariant-loop-disk
invariant-loop-disk l = map string_bytes l.paths.items ≡ left_on (take l.disk-index l.disks)
