use Rattle.std.proofs.Common.{◌+◌, ℕ, sym, subst, arith}
use Rattle.i8080.specs.Reading.{Cell, Done}
use Rattle.i8080.specs.Registers.{onward}
use Rattle.i8080.specs.Performs.{Reads}
use Rattle.pagemem.specs.Overlay.{memory_of}
use Rattle.pagemem.proofs.KnownCells.{are_known, reads_known}
use Rattle.pagemem.proofs.known_access.OverlayAccess.operand.Goals as goal

pub byte_after-requires : goal.byte_after-requires
byte_after-requires c = are_known c.args.self.now.known c.args.pc 2 (omega arith) c.requires

pub returns-clause-reads : goal.returns-clause-reads
returns-clause-reads c =
    let o = c.args.self.now in
    let m = memory_of o in
    let known = are_known o.known c.args.pc 2 (omega arith) c.requires in
    subst (λ (v : ℕ). Reads (Cell (onward c.args.pc 1) Done) m v m) (sym c.byte_after.ensures.byte) (reads_known o (c.args.pc + 1) (known 1 (omega arith)) _ (omega (arith, c.byte_after.ensures.inside)))
