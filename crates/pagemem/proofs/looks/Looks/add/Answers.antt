use Rattle.std.proofs.Common.{arith, sym, ◌∙◌, ap, ◌≡◌, ◌<◌, ◌++◌, ◌∷◌, [], get_or, false, cond, take}
use Rattle.pagemem.proofs.ListingLemmas.{fits, added, lists_added}
use Rattle.pagemem.proofs.looks.Looks.add.Goals as goal

pub index_mut-requires-then-not-index : goal.index_mut-requires-then-not-index
index_mut-requires-then-not-index c =
    let e : get_or c.self.inside.marks.items c.args.a false ≡ false = sym (rw c.if-not-index.true at c.index.ensures) in
    let h : c.self.inside.count < _ = fits _ _ _ c.self.invariant c.args.a c.ranges.a.fits e in
    omega (arith, h, c.self.inside.order.ok.0)

pub invariant_of-self : goal.invariant_of-self
invariant_of-self c =
    let e : get_or c.self.inside.marks.items c.args.a false ≡ false = sym (rw c.if-not-index.true at c.index.ensures) in
    lists_added _ _ _ c.self.invariant c.args.a c.ranges.a.fits e

pub returns-then-not-index : goal.returns-then-not-index
returns-then-not-index c =
    let e : get_or c.self.inside.marks.items c.args.a false ≡ false = sym (rw c.if-not-index.true at c.index.ensures) in
    rw (← c.self.view_is) (added _ _ _ c.self.invariant c.args.a c.ranges.a.fits e ∙ ap (λ b. cond b (take c.self.inside.count c.self.inside.order.items) (take c.self.inside.count c.self.inside.order.items ++ c.args.a ∷ [])) (sym e ∙ c.self.invariant.listed c.args.a))
