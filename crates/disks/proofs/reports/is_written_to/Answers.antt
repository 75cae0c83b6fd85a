use Rattle.std.proofs.Common.{◌<◌, arith, subst}
use Rattle.disks.specs.Given.{option_count}
use Rattle.disks.proofs.Folders.{among}
use Rattle.disks.proofs.reports.is_written_to.Goals as goal

pub returns-in-loop-at-clause-places : goal.returns-in-loop-at-clause-places
returns-in-loop-at-clause-places g c =
    let at = c.loop-at.at in
    let before : at < option_count c.args.within = subst (λ count. at < count) c.count-at-end.ensures.count c.loop-at-test.true in
    λ same. (_, (_, among c.args.words.now c.folders_of-folders.result at (option_count c.args.within) _ _ c.folders_of-folders.ensures before (omega arith) c.in-Some-written.is))
