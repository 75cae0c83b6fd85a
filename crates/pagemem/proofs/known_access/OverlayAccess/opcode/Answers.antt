use Rattle.i8080.specs.Opcodes.{decoded}
use Rattle.pagemem.proofs.KnownCells.{readable_known}
use Rattle.pagemem.proofs.LearnedLemmas.{bytes_at_most}
use Rattle.pagemem.proofs.known_access.OverlayAccess.opcode.Goals as goal

pub returns-clause-readable : goal.returns-clause-readable
returns-clause-readable c some =
    let e = c.learned_opcode.ensures in
    readable_known c.args.self.now.known c.args.a _ (e.low some) (bytes_at_most (decoded c.learned_opcode.result)) (e.operand some)
