use Rattle.std.proofs.Common.{◌+◌, ℕ, sym, subst, arith}
use Rattle.i8080.specs.Instruction.{word_at}
use Rattle.i8080.specs.Reading.{Done}
use Rattle.i8080.specs.Registers.{onward}
use Rattle.i8080.specs.Performs.{Reads}
use Rattle.pagemem.specs.Overlay.{memory_of}
use Rattle.pagemem.proofs.KnownCells.{are_known, reads_known_word}
use Rattle.pagemem.proofs.known_access.OverlayAccess.operand_word.Goals as goal

pub word_after-requires : goal.word_after-requires
word_after-requires c = are_known c.args.self.now.known c.args.pc 3 (omega arith) c.requires

pub returns-clause-reads : goal.returns-clause-reads
returns-clause-reads c =
    let o = c.args.self.now in
    let m = memory_of o in
    let known = are_known o.known c.args.pc 3 (omega arith) c.requires in
    subst (λ (v : ℕ). Reads (word_at (onward c.args.pc 1) Done) m v m) (sym c.word_after.ensures.word)
    (reads_known_word o (c.args.pc + 1) (c.args.pc + 2) _ (known 1 (omega arith)) (known 2 (omega arith)) (omega (arith, c.word_after.ensures.inside)) (omega (arith, c.word_after.ensures.inside)))
