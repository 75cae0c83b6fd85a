use Rattle.hostfiles.proofs.ChangedWalk.{all_changed}
use Rattle.hostfiles.proofs.names.changed_names_are_all.Goals as goal

pub returns : goal.returns
returns c = all_changed
