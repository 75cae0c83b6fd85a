use Rattle.std.proofs.Common.{inl, inr, ◌+◌, ◌-◌, ◌∙◌, ℕ, IsTrue, subst, arith, get_or, slice_index, length, false}
use Rattle.std.proofs.lemmas.Bool.{cases_lt}
use Rattle.pagemem.proofs.LearnedLemmas.{learned_by_part}
use Rattle.pagemem.proofs.known.Known.set_cells.Goals as goal

pub invariant_of-self-clause-learned : goal.invariant_of-self-clause-learned
invariant_of-self-clause-learned c =
    let k = c.args.self.now in
    let marks = λ (q : ℕ). get_or c.mark_cells.new.marks.items q false in
    learned_by_part (λ q. get_or k.marks.items q false) marks (λ q. slice_index k.bytes.items q) _ (λ q. get_or k.opcodes.items q 118) _ k.learned c.from-from.result _ c.clear_cells.ensures.inside
    (λ q out. (c.copy_cells.ensures.outside q out, c.clear_cells.ensures.outside q out))
    (λ q w. elim (cases_lt q c.from-from.result) [
      | inl low ↦ c.mark_cells.ensures.outside q (inl low) ∙ w
      | inr high ↦ elim (cases_lt q (c.from-from.result + length c.args.values.now)) [
        | inl within ↦ subst (λ (k : ℕ). IsTrue (marks k)) (omega (arith, high)) (c.mark_cells.ensures.inside (q - c.from-from.result) (omega (arith, high, within)))
        | inr past ↦ c.mark_cells.ensures.outside q (inr past) ∙ w
      ]
    ])
