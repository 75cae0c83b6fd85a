use Rattle.std.proofs.Common.{[], ◌∷◌, refl, subst}
use Rattle.folders.specs.FileSystem.{ChangesOnly}
use Rattle.plan.proofs.Preparing.{none_changed}
use Rattle.plan.proofs.carrying.discard_one.Goals as goal

pub returns-in-Put : goal.returns-in-Put
returns-in-Put g c =
    let old = (g.S.FileSystem.files c.args.system.now).bytes in
    let new = (g.S.FileSystem.files c.discard.new.self).bytes in
    rw c.in-Put.is (record { others = subst (λ t. ChangesOnly (t ∷ []) old new) c.as_str.ensures.value c.discard.ensures.others; failed = c.discard.ensures.failed })

pub returns-in-Remove : goal.returns-in-Remove
returns-in-Remove g c = rw c.in-Remove.is (record { others = none_changed (g.S.FileSystem.files c.args.system.now).bytes; failed = refl })
