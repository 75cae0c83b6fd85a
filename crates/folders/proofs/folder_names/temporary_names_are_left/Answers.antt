use Rattle.std.proofs.Common.{arith}
use Rattle.folders.proofs.LeftLemmas.{left}
use Rattle.folders.proofs.folder_names.temporary_names_are_left.Goals as goal

pub returns : goal.returns
returns c = λ name number small valid. left name number (omega (arith, small)) valid
