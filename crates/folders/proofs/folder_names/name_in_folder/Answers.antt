use Rattle.std.proofs.Common.{◌≡◌, ◌∙◌, ap, sym, false, Some, rules}
use Rattle.std.specs.List.{list_any}
use Rattle.filenames.specs.Drives.{drive_number}
use Rattle.filenames.specs.Names.{is_colon}
use Rattle.folders.proofs.EntryLemmas.{said_key, refused_key}
use Rattle.folders.proofs.folder_names.name_in_folder.Goals as goal

pub returns-in-Ok-clause-key : goal.returns-in-Ok-clause-key
returns-in-Ok-clause-key c =
    let plain : list_any is_colon c.args.file.now ≡ false = search rules in
    ap Some c.with_drive.ensures.moved ∙ sym (said_key c.args.file.now (drive_number c.args.drive) c.in-Ok.name plain c.in-Ok.ensures)

pub returns-in-Err-clause-key : goal.returns-in-Err-clause-key
returns-in-Err-clause-key c =
    let plain : list_any is_colon c.args.file.now ≡ false = search rules in
    sym (refused_key c.args.file.now (drive_number c.args.drive) _ plain c.in-Err.ensures)
