use Rattle.std.proofs.Common.{get_or, slice_index, refl, false}
use Rattle.pagemem.proofs.LearnedLemmas.{learned_by_removal}
use Rattle.pagemem.proofs.known.Known.remove_cells.Goals as goal

pub invariant_of-self-clause-learned : goal.invariant_of-self-clause-learned
invariant_of-self-clause-learned c =
    let k = c.args.self.now in
    learned_by_removal (λ q. get_or k.marks.items q false) (λ q. get_or c.mark_cells.new.marks.items q false) (λ q. slice_index k.bytes.items q) _ (λ q. get_or k.opcodes.items q 118) _ k.learned
    c.args.from c.args.count _ _ c.saturating_sub-first.ensures refl c.clear_cells.ensures.inside c.clear_cells.ensures.outside (λ q. refl) c.mark_cells.ensures.outside
