use Rattle.std.proofs.Common.{Err, ap}
use Rattle.std.proofs.lemmas.Result.{err_from_is_err_and}
use Rattle.filenames.specs.Drives.{drive_number}
use Rattle.folders.proofs.FaultLemmas.{folder_fails, unlisted_fails}
use Rattle.folders.proofs.ReadLemmas.{names_of, folder_read}
use Rattle.folders.proofs.reading.read_folder.Goals as goal

pub returns-clause-read : goal.returns-clause-read
returns-clause-read g c =
    let listing = c.in_ok-listing.listing in
    folder_read (g.S.FileSystem.files c.args.system.now).bytes ((g.S.FileSystem.files c.args.system.now).names c.args.folder.now) (drive_number c.args.drive) c.args.folder.now
    listing.files listing.duplicate c.args.files.now c.read_listed.new.files c.in_ok-listing.ensures.lists c.in_default.is c.requires c.read_listed.ensures.others
    (rw c.list.ensures.unchanged.bytes at c.in_ok-read_listed.ensures.read)

pub returns-clause-names : goal.returns-clause-names
returns-clause-names g c =
    let listing = c.in_ok-listing.listing in
    names_of (g.S.FileSystem.files c.args.system.now) (drive_number c.args.drive) c.args.folder.now listing
    (ap drive_number c.in_ok-listing.ensures.drive) c.in_default.is c.in_ok-listing.ensures.lists c.in_ok-listing.ensures.lower c.in_ok-listing.ensures.left

pub returns-in_err-read_listed-clause-fault : goal.returns-in_err-read_listed-clause-fault
returns-in_err-read_listed-clause-fault g c =
    let listing = c.in_ok-listing.listing in
    let left = err_from_is_err_and c.from_residual-in_err-read_listed.result c.from_residual-in_err-read_listed.ensures.1 in
    rw (left.1, left.2) (folder_fails (g.S.FileSystem.files c.args.system.now) (drive_number c.args.drive) c.args.folder.now
    listing.files listing.duplicate c.read_listed.new.files (Err c.in_err-read_listed.field-0.0) c.in_ok-listing.ensures.lists c.in_default.is
    (rw c.in_ok-listing.ensures.drive at listing.on_drive)
    (rw c.list.ensures.unchanged.bytes at c.in_err-read_listed.ensures.fault))

pub returns-in_err-listing-clause-fault : goal.returns-in_err-listing-clause-fault
returns-in_err-listing-clause-fault g c =
    let left = err_from_is_err_and c.from_residual.result c.from_residual.ensures.1 in
    rw (left.1, left.2) (unlisted_fails (g.S.FileSystem.files c.args.system.now) (drive_number c.args.drive) c.args.folder.now c.args.files.now _ c.in_err-listing.ensures.fault)
