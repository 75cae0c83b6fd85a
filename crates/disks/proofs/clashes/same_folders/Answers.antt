use Rattle.std.proofs.Common.{◌<◌, arith, ◌∙◌}
use Rattle.std.proofs.lemmas.Result.{err_from_is_err_and}
use Rattle.std.proofs.lemmas.List.Elements.{All-contains, All-map, All-push}
use Rattle.folders.proofs.FilesLemmas.{same_files}
use Rattle.disks.specs.Given.{IsGiven}
use Rattle.disks.proofs.Folders.{among, folder_fails}
use Rattle.disks.proofs.clashes.same_folders.Goals as goal

pub returns-in_err-id-clause-fault : goal.returns-in_err-id-clause-fault
returns-in_err-id-clause-fault g c =
    let left = err_from_is_err_and c.from_residual.result c.from_residual.ensures.1 in
    let there = among c.args.words.now c.folders_of-folders.result c.loop-at.at 12 _ _ c.folders_of-folders.ensures c.loop-at-test.true c.loop-at-test.true c.in-Some.is in
    rw (left.1, left.2) (folder_fails c.args.words.now _ _ _ there c.in_err-id.ensures.fault)

pub returns-in-Some-option_of-clause-given : goal.returns-in-Some-option_of-clause-given
returns-in-Some-option_of-clause-given g c =
    let all = All-map (IsGiven c.args.words.now 8) (λ f. f.option.now) c.loop-at.found.items c.loop-at.invariant.1 in
    let there = among c.args.words.now c.folders_of-folders.result c.loop-at.at 12 _ _ c.folders_of-folders.ensures c.loop-at-test.true c.loop-at-test.true c.in-Some.is in
    (All-contains (IsGiven c.args.words.now 8) _ _ all (rw c.as_slice.ensures.value at c.in-Some-option_of.ensures), (_, there))

pub loop-at-preserved : goal.loop-at-preserved
loop-at-preserved g c =
    let low : c.loop-at.at < 8 = omega arith in
    let there = among c.args.words.now c.folders_of-folders.result c.loop-at.at 8 _ _ c.folders_of-folders.ensures low c.loop-at-test.true c.in-Some.is in (
      same_files c.in_ok-id.ensures.unchanged ∙ c.loop-at.invariant.0,
      rw c.in-Ok.ensures.items (All-push (λ f. IsGiven c.args.words.now 8 f.option.now) c.loop-at.found.items _ c.loop-at.invariant.1 (_, there)),
    )
