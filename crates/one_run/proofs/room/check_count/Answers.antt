use Rattle.std.proofs.Common.{map, string_bytes}
use Rattle.std.proofs.lemmas.List.{length-map}
use Rattle.filenames.specs.Drives.{drive_number}
use Rattle.one_run.proofs.Rooms.{fits_by_count, fits_by_names}
use Rattle.one_run.proofs.room.check_count.Goals as goal

pub returns-then-fits-clause-fits : goal.returns-then-fits-clause-fits
returns-then-fits-clause-fits g c =
    let fit = c.fits.ensures c.if-fits.true in
    fits_by_names (g.S.FileSystem.files c.args.system.now).bytes (map string_bytes c.args.names.now) (drive_number c.args.drive) _ c.args.folder.now _ _
    (length-map c.args.names.now string_bytes) (rw (c.count_in_turn-added.ensures, c.count_in_turn-gone.ensures) at fit)

pub returns-then-fits-2-clause-fits : goal.returns-then-fits-2-clause-fits
returns-then-fits-2-clause-fits g c =
    let fit = c.fits-2.ensures c.if-fits-2.true in
    fits_by_count (g.S.FileSystem.files c.args.system.now).bytes (map string_bytes c.args.names.now) (drive_number c.args.drive) _ c.args.folder.now _ _
    c.in_ok-count_files.ensures.count (rw (c.count_in_turn-added.ensures, c.count_in_turn-gone.ensures) at fit)
