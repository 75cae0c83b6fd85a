use Rattle.std.proofs.Common.{ap, sym, subst, ◌∙◌, ◌≡◌, get_or, slice_index, true, false, arith, ℕ}
use Rattle.i8080.specs.Opcodes.{decoded}
use Rattle.i8080.specs.Operands.{byte_count}
use Rattle.pagemem.specs.Known.{is_known}
use Rattle.pagemem.specs.Learned.{AreKnown}
use Rattle.pagemem.proofs.LearnedLemmas.{learned_by_learning}
use Rattle.pagemem.proofs.Laws.{set_read}
use Rattle.pagemem.proofs.known.Known.learn_opcode.Goals as goal
use Rattle.pagemem.proofs.known.Known.learn_opcode.Goals.{else-a-lt-SYSTEM_AREA-via-then-a-lt-SYSTEM_AREA+else-are_known, else-a-lt-SYSTEM_AREA-via-else-a-lt-SYSTEM_AREA}

pub invariant_of-self-clause-learned : goal.invariant_of-self-clause-learned
invariant_of-self-clause-learned c =
    let k = c.args.self.now in
    learned_by_learning (λ q. get_or k.marks.items q false) (λ q. slice_index k.bytes.items q) (λ q. get_or k.opcodes.items q 118) _ c.args.a c.byte-byte.result c.byte_count.result
    k.learned c.byte-byte.ensures c.byte_count.ensures.count (c.are_known.ensures.known c.if-are_known.true) (omega (arith, c.if-a-lt-SYSTEM_AREA.true))
    (set_read k.opcodes.items c.args.a c.byte-byte.result 118 (omega (arith, c.if-a-lt-SYSTEM_AREA.true, k.all_opcodes)))

pub returns-else-a-lt-SYSTEM_AREA-clause-learned : goal.returns-else-a-lt-SYSTEM_AREA-clause-learned
returns-else-a-lt-SYSTEM_AREA-clause-learned c readable low = elim c.else-a-lt-SYSTEM_AREA.branch [
  | else-a-lt-SYSTEM_AREA-via-then-a-lt-SYSTEM_AREA+else-are_known w ↦ absurd (let e : false ≡ true = sym w.if-are_known.false
      ∙ w.are_known.ensures.unknown (subst (λ (n : ℕ). AreKnown (is_known c.args.self.now) c.args.a n) (ap (λ b. byte_count (decoded b)) (sym c.byte-byte.ensures) ∙ sym w.byte_count.ensures.count) readable) in let no : ⊥ = cc in no)
  | else-a-lt-SYSTEM_AREA-via-else-a-lt-SYSTEM_AREA w ↦ absurd (omega (arith, low, w.if-a-lt-SYSTEM_AREA.false))
]
