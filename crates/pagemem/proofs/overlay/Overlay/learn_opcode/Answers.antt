use Rattle.std.proofs.Common.{ℕ, ◌+◌, ◌≡◌, ◌∙◌, IsTrue, sym, subst, arith}
use Rattle.i8080.specs.Opcodes.{decoded}
use Rattle.i8080.specs.Operands.{byte_count}
use Rattle.pagemem.specs.Known.{is_known}
use Rattle.pagemem.specs.Learned.{AreKnown}
use Rattle.pagemem.proofs.LearnedLemmas.{bytes_at_least}
use Rattle.pagemem.proofs.overlay.Overlay.learn_opcode.Goals as goal

pub returns-clause-learned : goal.returns-clause-learned
returns-clause-learned c known low =
    let o = c.args.self.now in
    let here : c.args.a + 0 ≡ c.args.a = omega arith in
    let byte = (o.agrees c.args.a (subst (λ (q : ℕ). IsTrue (is_known o.known q)) here (known 0 (bytes_at_least _)))).value in
    c.learn_opcode.ensures.learned (subst (λ (b : ℕ). AreKnown (is_known o.known) c.args.a (byte_count (decoded b))) (sym byte) known) low ∙ byte
