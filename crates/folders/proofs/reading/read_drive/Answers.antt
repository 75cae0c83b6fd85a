use Rattle.std.proofs.Common.{ap, ◌∙◌}
use Rattle.std.proofs.lemmas.Result.{err_from_is_err_and}
use Rattle.filenames.specs.Drives.{drive_number}
use Rattle.folders.specs.Folders.{path_of}
use Rattle.folders.proofs.FaultLemmas.{before_still}
use Rattle.folders.proofs.ReadLemmas.{none_more, one_read}
use Rattle.folders.proofs.reading.read_drive.Goals as goal

pub returns-in_err-read_folder-in-Some-clause-fault : goal.returns-in_err-read_folder-in-Some-clause-fault
returns-in_err-read_folder-in-Some-clause-fault g c =
    let files = g.S.FileSystem.files c.args.system.now in
    let drive = drive_number c.args.drive in
    let left = err_from_is_err_and c.from_residual.result c.from_residual.ensures.1 in
    rw (left.1, left.2) (λ folders at r. record {
      drive = drive;
      folder = c.in-Some.folder.now;
      here = at ∙ ap path_of c.in-Some.is;
      host = c.read_folder.new.files;
      before = before_still files folders drive c.args.files.now c.read_folder.new.files r c.read_folder.ensures.others;
      fails = c.in_err-read_folder-in-Some.ensures.fault;
    })

pub returns-in_ok-read_folder-in-Some-clause-read : goal.returns-in_ok-read_folder-in-Some-clause-read
returns-in_ok-read_folder-in-Some-clause-read g c = λ folders at r.
    one_read (g.S.FileSystem.files c.args.system.now) folders (drive_number c.args.drive) c.in-Some.folder.now c.args.files.now c.read_folder.new.files r
    (at ∙ ap path_of c.in-Some.is) c.read_folder.ensures.others c.in_ok-read_folder-in-Some.ensures.read

pub returns-in-None-clause-read : goal.returns-in-None-clause-read
returns-in-None-clause-read g c = λ folders at r.
    none_more (g.S.FileSystem.files c.args.system.now) folders (drive_number c.args.drive) c.args.files.now r (at ∙ ap path_of c.in-None.is)
