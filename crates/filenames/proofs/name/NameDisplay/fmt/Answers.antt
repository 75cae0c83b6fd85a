use Rattle.std.proofs.Common.{append_assoc}
use Rattle.std.proofs.Output.{has_written_of_eq}
use Rattle.filenames.proofs.name.NameDisplay.fmt.Goals as goal

pub returns-clause-writes : goal.returns-clause-writes
returns-clause-writes g c = λ p k. has_written_of_eq _ _ _ _ _ (simp append_assoc at c.pieces.ensures.printed) (c.write.ensures.writes p k)
