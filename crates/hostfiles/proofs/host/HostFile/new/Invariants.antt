use Rattle.std.proofs.Common.{◌≡◌, map}
use Rattle.std.specs.List.{range_with_len}
use Rattle.hostfiles.specs.Hosts.{padded_record_at}
use Rattle.hostfiles.proofs.host.HostFile.new.Given as goal

abbrev pub invariant-loop-i : goal.invariant-loop-i
invariant-loop-i l = l.records.items ≡ map (padded_record_at l.bytes) (range_with_len 0 l.i)
