use Rattle.std.proofs.Common.{◌≤◌, List, length, subst, ap, ◌∙◌}
use Rattle.hostfiles.specs.Hosts.{Record, has_room}
use Rattle.hostfiles.proofs.HostLemmas.{host_either}
use Rattle.hostfiles.proofs.host.HostFiles.put.Goals as goal

pub invariant_of-self : goal.invariant_of-self
invariant_of-self c =
    let short : length c.args.file ≤ 65536 = subst (λ (f : List Record). length f ≤ 65536) c.file.view_is c.file.invariant in
    host_either _ _ _ _ c.insert.result short c.insert.ensures.ok c.insert.ensures.err c.self.invariant c.key.ensures.sayable
    (ap (λ m. has_room m c.key.result) c.self.view_is ∙ ap (has_room _) c.key.ensures.key ∙ c.requires)

pub returns-clause-limits : goal.returns-clause-limits
returns-clause-limits c = invariant_of-self c
