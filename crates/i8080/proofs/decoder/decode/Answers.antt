use Rattle.std.proofs.Common.{sym, arith}
use Rattle.i8080.proofs.Decoding.{decodes_decoded, decodes_opcode, decoded_some}
use Rattle.i8080.proofs.decoder.decode.Goals as goal

pub returns-in-0-clause-decoded : goal.returns-in-0-clause-decoded
returns-in-0-clause-decoded c = decodes_decoded _ _ c.first_quarter.ensures

pub returns-in-0-clause-opcode : goal.returns-in-0-clause-opcode
returns-in-0-clause-opcode c = decodes_opcode _ _ c.first_quarter.ensures

pub returns-in-InRegister-default-clause-decoded : goal.returns-in-InRegister-default-clause-decoded
returns-in-InRegister-default-clause-decoded c = sym (decoded_some _ _ (omega arith))

pub returns-in-Memory-InRegister-clause-decoded : goal.returns-in-Memory-InRegister-clause-decoded
returns-in-Memory-InRegister-clause-decoded c = sym (decoded_some _ _ (grind arith))

pub returns-in-Memory-Memory-clause-decoded : goal.returns-in-Memory-Memory-clause-decoded
returns-in-Memory-Memory-clause-decoded c = sym (decoded_some _ _ (grind arith))

pub returns-in-2-clause-decoded : goal.returns-in-2-clause-decoded
returns-in-2-clause-decoded c = sym (decoded_some _ _ (omega arith))

pub returns-in_default-clause-decoded : goal.returns-in_default-clause-decoded
returns-in_default-clause-decoded c = decodes_decoded _ _ c.last_quarter.ensures

pub returns-in_default-clause-opcode : goal.returns-in_default-clause-opcode
returns-in_default-clause-opcode c = decodes_opcode _ _ c.last_quarter.ensures
