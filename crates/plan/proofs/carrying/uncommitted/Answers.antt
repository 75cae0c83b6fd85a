use Rattle.std.proofs.Common.{◌∙◌, ◌∷◌, [], ap, arith, map, refl, string_bytes, sym}
use Rattle.plan.specs.Plans.{path_of}
use Rattle.plan.proofs.Failures.{path_there, rest_at}
use Rattle.plan.proofs.carrying.uncommitted.Goals as goal

pub returns-in-Put-clause-fault : goal.returns-in-Put-clause-fault
returns-in-Put-clause-fault g c =
    let (rest, whole, kept, le) = c.loop-deeds.invariant.taken in
    rw (rest_at c.loop-deeds.deeds.items rest c.args.deeds.items c.args.at c.swap_remove.result whole c.loop-deeds.invariant.within (omega arith) c.swap_remove.ensures.value, c.in-Put.is)
    (refl, refl, ap (map string_bytes) c.reverse.ensures.items ∙ sym kept)

pub returns-in-Put-clause-paths : goal.returns-in-Put-clause-paths
returns-in-Put-clause-paths g c =
    let (rest, whole, kept, le) = c.loop-deeds.invariant.taken in
    sym (path_there c.loop-deeds.deeds.items rest c.args.deeds.items c.args.at c.swap_remove.result whole c.loop-deeds.invariant.within c.swap_remove.ensures.value
    ∙ ap (λ d. path_of d ∷ []) c.in-Put.is)

pub returns-clause-paths : goal.returns-clause-paths
returns-clause-paths g c =
    let (rest, whole, kept, le) = c.loop-deeds.invariant.taken in
    sym (path_there c.loop-deeds.deeds.items rest c.args.deeds.items c.args.at c.swap_remove.result whole c.loop-deeds.invariant.within c.swap_remove.ensures.value
    ∙ ap (λ d. path_of d ∷ []) c.in-Remove.is)
