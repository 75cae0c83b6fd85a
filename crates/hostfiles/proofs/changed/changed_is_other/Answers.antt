use Rattle.hostfiles.proofs.Differences.{changed_other}
use Rattle.hostfiles.proofs.changed.changed_is_other.Goals as goal

pub returns : goal.returns
returns c = changed_other
