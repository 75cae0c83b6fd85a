use Rattle.std.proofs.Common.{◌∙◌, ap, refl}
use Rattle.std.proofs.lemmas.Result.{err_from_is_err_and}
use Rattle.filenames.specs.Drives.{drive_number}
use Rattle.folders.proofs.FaultLemmas.{name_unlisted}
use Rattle.folders.proofs.FilesLemmas.{keeps_err, keeps_same, same_files}
use Rattle.folders.proofs.ListingLemmas.{none_listed_if_told, further, all_listed, same_names}
use Rattle.folders.proofs.reading.list_names.Goals as goal

pub loop-name-init : goal.loop-name-init
loop-name-init g c = (
  c.new-listing.ensures.drive,
  refl,
  none_listed_if_told (drive_number c.args.drive) c.args.folder.now _ _ (g.S.FileSystem.files c.args.system.now).bytes c.new-listing.ensures.files c.new-listing.ensures.duplicate,
  c.new-listing.ensures.lower ∙ c.prefers_lower.ensures,
  rw c.new-listing.ensures.left c.in_ok-left.ensures,
)

pub loop-name-preserved : goal.loop-name-preserved
loop-name-preserved g c = (
  c.add_file.ensures.drive ∙ c.loop-name.invariant.0,
  same_files c.in_ok-add_file.ensures.unchanged ∙ c.loop-name.invariant.1,
  further (drive_number c.args.drive) c.args.folder.now _ _ c.as_str.result.now (g.S.FileSystem.files c.args.system.now).bytes c.args.names.now c.loop-name.name-index c.name-item.result
      (drive_number c.loop-name.listing.drive) _ _ c.loop-name-test.true c.name-item.is c.as_str.ensures.value (ap drive_number c.loop-name.invariant.0) c.loop-name.invariant.2
      (rw c.loop-name.invariant.1 at c.in_ok-add_file.ensures.lists),
  c.add_file.ensures.lower ∙ c.loop-name.invariant.3,
  rw c.add_file.ensures.left c.loop-name.invariant.4,
)

pub returns-in_err-add_file-clause-unchanged : goal.returns-in_err-add_file-clause-unchanged
returns-in_err-add_file-clause-unchanged g c =
    let left = err_from_is_err_and c.from_residual-in_err-add_file.result c.from_residual-in_err-add_file.ensures.1 in
    rw (left.1, left.2) (keeps_err c.loop-name.invariant.1 c.in_err-add_file.ensures.unchanged)

pub returns-in_err-add_file-clause-fault : goal.returns-in_err-add_file-clause-fault
returns-in_err-add_file-clause-fault g c =
    let left = err_from_is_err_and c.from_residual-in_err-add_file.result c.from_residual-in_err-add_file.ensures.1 in
    rw (left.1, left.2) (name_unlisted (drive_number c.args.drive) (drive_number c.loop-name.listing.drive) c.args.folder.now c.as_str.result.now
    c.args.names.now c.loop-name.name-index c.name-item.result _
    c.loop-name-test.true c.name-item.is c.as_str.ensures.value (ap drive_number c.loop-name.invariant.0) c.in_err-add_file.ensures.fault)

pub returns : goal.returns
returns g c = record {
  drive = c.loop-name.invariant.0;
  lower = c.loop-name.invariant.3;
  left = c.loop-name.invariant.4;
  lists = all_listed (drive_number c.args.drive) c.args.folder.now _ _ (g.S.FileSystem.files c.args.system.now).bytes c.args.names.now c.loop-name.name-index _ c.loop-name-test.false
      (same_names (g.S.FileSystem.files c.args.system.now).bytes _) c.loop-name.invariant.2;
  fault = tt;
  unchanged = keeps_same _ _ _ _ c.loop-name.invariant.1;
}
