use Rattle.std.proofs.Common.{subst, sym}
use Rattle.hostfiles.specs.Hosts.{IsHost}
use Rattle.hostfiles.proofs.HostLemmas.{host_empty}
use Rattle.hostfiles.proofs.host.HostFiles.new.Goals as goal

pub invariant_of-result : goal.invariant_of-result
invariant_of-result c = subst IsHost (sym c.new.ensures) host_empty
