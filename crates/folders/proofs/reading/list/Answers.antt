use Rattle.std.proofs.Common.{map, string_bytes}
use Rattle.std.proofs.lemmas.Result.{IfErr-weaker, IfOk-weaker, err_from_is_err_and}
use Rattle.filenames.specs.Drives.{drive_number}
use Rattle.folders.proofs.FaultLemmas.{folder_unlisted, names_unlisted}
use Rattle.folders.proofs.ListingLemmas.{listed_as}
use Rattle.folders.proofs.reading.list.Goals as goal

pub returns-clause-lists : goal.returns-clause-lists
returns-clause-lists g c =
    let files = g.S.FileSystem.files c.args.system.now in
    IfOk-weaker c.list_names.result _ _
    (λ listing. listed_as (drive_number c.args.drive) c.args.folder.now listing.files listing.duplicate files.bytes _ _ (rw (← c.as_slice.ensures.value) at c.in_ok-names.ensures.names))
    (rw c.names_in.ensures.unchanged.bytes at c.list_names.ensures.lists)

pub returns-clause-fault : goal.returns-clause-fault
returns-clause-fault g c =
    let files = g.S.FileSystem.files c.args.system.now in
    IfErr-weaker c.list_names.result _ _
    (λ f. names_unlisted files (drive_number c.args.drive) c.args.folder.now (map string_bytes c.as_slice.result.now) f
    (rw (← c.as_slice.ensures.value) at c.in_ok-names.ensures.names))
    c.list_names.ensures.fault

pub returns-in_err-names-clause-fault : goal.returns-in_err-names-clause-fault
returns-in_err-names-clause-fault g c =
    let left = err_from_is_err_and c.from_residual.result c.from_residual.ensures.1 in
    rw (left.1, left.2) (folder_unlisted (g.S.FileSystem.files c.args.system.now) (drive_number c.args.drive) c.args.folder.now _ c.in_err-names.ensures.fault)
