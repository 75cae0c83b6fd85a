use Rattle.std.proofs.Common.{subst, sym}
use Rattle.hostfiles.specs.Hosts.{IsHost}
use Rattle.hostfiles.proofs.HostLemmas.{host_removed}
use Rattle.hostfiles.proofs.host.HostFiles.remove.Goals as goal

pub invariant_of-self : goal.invariant_of-self
invariant_of-self c = subst IsHost (sym c.remove.ensures.removed) (host_removed _ _ c.self.invariant)

pub returns-clause-limits : goal.returns-clause-limits
returns-clause-limits c = invariant_of-self c
