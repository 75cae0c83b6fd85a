use Rattle.cpmfiles.proofs.DeleteLaws.{files-deleted_all}
use Rattle.cpmfiles.proofs.laws.named_files_are_gone.Goals as goal

pub returns : goal.returns
returns c = files-deleted_all
