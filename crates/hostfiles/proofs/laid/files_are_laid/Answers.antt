use Rattle.hostfiles.proofs.FileLemmas.{get-files, files-made, files-deleted}
use Rattle.hostfiles.proofs.LaidLemmas.{files-renamed, files-counted, files-read}
use Rattle.hostfiles.proofs.WriteLemmas.{files-wrote}
use Rattle.hostfiles.proofs.laid.files_are_laid.Goals as goal

pub returns : goal.returns
returns c = λ host own. record {
  at = get-files host own;
  counted = files-counted host own;
  read = files-read host own;
  made_one = files-made host own;
  deleted_one = files-deleted host own;
  written_one = files-wrote host own;
  renamed_one = files-renamed host own;
}
