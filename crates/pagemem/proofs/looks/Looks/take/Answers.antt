use Rattle.std.proofs.Common.{arith, rules, sym, ◌∙◌, ◌≡◌, ◌+◌, ◌-◌, ◌<◌, slice_index, slice_set, subst, ℕ, false}
use Rattle.std.proofs.lemmas.List.{get_or_default}
use Rattle.pagemem.specs.CellMarks.{ListsMarks}
use Rattle.pagemem.proofs.ListingLemmas.{here, lists_taken}
use Rattle.pagemem.proofs.looks.Looks.take.Goals as goal

pub invariant_of-self : goal.invariant_of-self
invariant_of-self c =
    let l = c.self.inside in
    let n = l.count - 1 in
    let last : l.count ≡ n + 1 = omega (arith, c.if-self-eq0.false) in
    let small : c.index-a.result.now < 65536 = search rules in
    let at : c.index-a.result.now ≡ slice_index l.order.items n = c.index-a.ensures ∙ get_or_default l.order.items n c.index-a.result.now 0 (here _ _ _ c.self.invariant n last) in
    subst (λ (a : ℕ). ListsMarks (slice_set l.marks.items a false) l.order.items n) (sym at)
    (lists_taken _ _ _ c.self.invariant n last (subst (λ (a : ℕ). a < 65536) at small))
