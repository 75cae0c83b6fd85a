use Rattle.folders.proofs.FilesLemmas.{same_files}
use Rattle.loading.proofs.loading.load.Goals as goal

pub returns-clause-fault : goal.returns-clause-fault
returns-clause-fault g c = rw (same_files c.in_ok-inputs.ensures.unchanged) at c.load_with.ensures.fault
