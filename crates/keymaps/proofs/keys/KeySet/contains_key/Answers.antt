use Rattle.std.proofs.Common.{is_some, ap, sym, ◌∙◌}
use Rattle.std.proofs.lemmas.Bool.Decides.{Decides-eqb, not_from_Decides}
use Rattle.std.proofs.lemmas.Slice.Eq.{slice_eq-Decides}
use Rattle.std.specs.Cmp.Lexicographic.{nat_list_cmp_total}
use Rattle.keymaps.proofs.Views.{same_key}
use Rattle.keymaps.proofs.Firsts.{none_in, there_first, there_rest}
use Rattle.keymaps.proofs.keys.KeySet.contains_key.Goals as goal

pub returns-in-None : goal.returns-in-None
returns-in-None c = ap is_some (sym (none_in nat_list_cmp_total same_key _ _ c.self.inside.first c.self.view_is c.in-None.is c.self.invariant c.args.key.now))

pub returns-then-eq : goal.returns-then-eq
returns-then-eq c =
    let same = slice_eq-Decides Decides-eqb _ _ _ c.eq.ensures in
    c.if-eq.true ∙ sym (ap is_some (there_first nat_list_cmp_total same_key _ _ c.self.inside.first c.self.view_is c.in-Some.first c.in-Some.is c.args.key.now (same.0 c.if-eq.true)))

pub returns-else-eq : goal.returns-else-eq
returns-else-eq c =
    let same = slice_eq-Decides Decides-eqb _ _ _ c.eq.ensures in
    c.contains_key.ensures ∙ there_rest nat_list_cmp_total same_key _ _ c.self.inside.first c.self.view_is c.in-Some.first c.in-Some.is c.args.key.now (not_from_Decides _ same c.if-eq.false)
