use Rattle.i8080.proofs.Decoding.{same_opcode}
use Rattle.i8080.proofs.decoder.opcodes_differ.Goals as goal

pub returns : goal.returns
returns c = same_opcode
