use Rattle.std.proofs.Common.{arith}
use Rattle.hostfiles.proofs.CountLemmas.{past_entries}
use Rattle.hostfiles.proofs.directory_view.FileViewFileShape.extents.Goals as goal

pub returns-clause-none : goal.returns-clause-none
returns-clause-none c = λ e l u. past_entries _ _ _ e (omega arith) (let count = c.length-n.ensures in omega arith)
