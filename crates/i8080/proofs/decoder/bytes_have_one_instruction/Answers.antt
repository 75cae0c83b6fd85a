use Rattle.i8080.proofs.Decoding.{none_has, one_has}
use Rattle.i8080.proofs.decoder.bytes_have_one_instruction.Goals as goal

pub returns-clause-undefined : goal.returns-clause-undefined
returns-clause-undefined c = none_has

pub returns-clause-defined : goal.returns-clause-defined
returns-clause-defined c = one_has
