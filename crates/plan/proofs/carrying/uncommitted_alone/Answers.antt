use Rattle.std.proofs.Common.{◌∙◌, add-one, ap, slice_get}
use Rattle.plan.specs.Faults.{paths_for}
use Rattle.plan.specs.declared.looking.Trouble.TheVariants.{Failed}
use Rattle.plan.proofs.Failures.{alone_fails, still_at}
use Rattle.plan.proofs.carrying.uncommitted_alone.Goals as goal

pub returns-clause-fault : goal.returns-clause-fault
returns-clause-fault g c =
    alone_fails c.args.deeds.items c.args.at c.uncommitted.result (rw c.truncate.ensures.items at c.uncommitted.ensures.fault)

pub returns-clause-paths : goal.returns-clause-paths
returns-clause-paths g c =
    c.uncommitted.ensures.paths ∙ ap (λ xs. paths_for Failed (slice_get xs c.args.at)) c.truncate.ensures.items
    ∙ rw (add-one c.args.at) (ap (paths_for Failed) (still_at c.args.deeds.items c.args.at))
