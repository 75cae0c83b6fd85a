use Rattle.filenames.specs.Drives.{drive_number}
use Rattle.folders.proofs.ListingLemmas.{added_if_told, passed_over_if_told}
use Rattle.folders.proofs.reading.add_file.Goals as goal

pub returns-clause-lists : goal.returns-clause-lists
returns-clause-lists g c =
    added_if_told (drive_number c.args.listing.now.drive) c.args.folder.now _ _ c.args.file.now (g.S.FileSystem.files c.args.system.now).bytes c.in-Some.name c.in_ok-file.file
    c.in_ok-file.ensures.ok (rw c.in-Some.is at c.in_ok-name.ensures.finds) _ _ c.in_ok-add.ensures.once c.in_ok-add.ensures.again

pub returns-in_default-clause-lists : goal.returns-in_default-clause-lists
returns-in_default-clause-lists g c =
    passed_over_if_told (drive_number c.args.listing.now.drive) c.args.folder.now _ _ c.args.file.now (g.S.FileSystem.files c.args.system.now).bytes (rw c.in_default.is at c.in_ok-name.ensures.finds)
