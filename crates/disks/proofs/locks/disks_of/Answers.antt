use Rattle.std.proofs.Common.{◌∙◌, ◌<◌, ap, arith, length, refl}
use Rattle.std.proofs.lemmas.Result.{err_from_is_err_and}
use Rattle.std.proofs.lemmas.List.{length-append}
use Rattle.std.proofs.lemmas.List.Elements.{All-push}
use Rattle.folders.proofs.FilesLemmas.{same_files}
use Rattle.disks.specs.Given.{IsDisk}
use Rattle.disks.proofs.Folders.{among, disk_fails, one_more}
use Rattle.disks.proofs.locks.disks_of.Goals as goal

pub loop-at-preserved : goal.loop-at-preserved
loop-at-preserved g c =
    let w = c.args.words.now in
    let there : c.loop-at.at < 12 = omega arith in
    let disk = among w c.folders_of-folders.result c.loop-at.at 4 _ _ c.folders_of-folders.ensures c.loop-at-test.true there c.in-Some.is in
    let more = one_more w c.folders_of-folders.result c.loop-at.at _ _ c.folders_of-folders.ensures there c.in-Some.is in record {
      files = same_files c.in_ok-id.ensures.unchanged ∙ c.loop-at.invariant.files;
      disks = rw c.in-Ok.ensures.items (All-push (λ disk. IsDisk w disk.1.now) c.loop-at.disks.items _ c.loop-at.invariant.disks (_, _, disk, refl));
      all = omega (arith, more, c.loop-at.invariant.all, simp length-append at (ap length c.in-Ok.ensures.items));
    }

pub loop-at-preserved-in_default : goal.loop-at-preserved-in_default
loop-at-preserved-in_default g c =
    let there : c.loop-at.at < 12 = omega arith in
    let more = one_more c.args.words.now c.folders_of-folders.result c.loop-at.at _ _ c.folders_of-folders.ensures there c.in_default.is in record {
      files = c.loop-at.invariant.files;
      disks = c.loop-at.invariant.disks;
      all = omega (arith, more, c.loop-at.invariant.all);
    }

pub returns-in_err-id-clause-fault : goal.returns-in_err-id-clause-fault
returns-in_err-id-clause-fault g c =
    let w = c.args.words.now in
    let left = err_from_is_err_and c.from_residual.result c.from_residual.ensures.1 in
    let there : c.loop-at.at < 12 = omega arith in
    let disk = among w c.folders_of-folders.result c.loop-at.at 4 _ _ c.folders_of-folders.ensures c.loop-at-test.true there c.in-Some.is in
    rw (left.1, left.2) (disk_fails w _ _ (_, _, disk, refl) c.in_err-id.ensures.fault)
