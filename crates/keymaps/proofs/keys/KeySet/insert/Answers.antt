use Rattle.std.proofs.lemmas.Bool.Decides.{Decides-eqb, not_from_Decides}
use Rattle.std.proofs.lemmas.Slice.Eq.{slice_eq-Decides}
use Rattle.std.specs.Cmp.Lexicographic.{nat_list_cmp_total}
use Rattle.keymaps.proofs.Views.{same_key}
use Rattle.keymaps.proofs.Firsts.{absent_too, new_apart, kept_first, more, more_apart}
use Rattle.keymaps.proofs.keys.KeySet.insert.Goals as goal

pub invariant_of-self : goal.invariant_of-self
invariant_of-self c = new_apart nat_list_cmp_total same_key _ _ c.self.inside.first c.self.view_is c.in_default.is c.self.invariant c.args.key

pub returns-then-eq-clause-ok : goal.returns-then-eq-clause-ok
returns-then-eq-clause-ok c =
    let same = slice_eq-Decides Decides-eqb _ _ _ c.eq.ensures in
    kept_first nat_list_cmp_total same_key _ _ c.self.inside.first c.self.view_is c.in-Some.first c.in-Some.is c.args.key (same.0 c.if-eq.true)

pub invariant_of-self-2 : goal.invariant_of-self-2
invariant_of-self-2 c =
    let same = slice_eq-Decides Decides-eqb _ _ _ c.eq.ensures in
    more_apart nat_list_cmp_total same_key _ _ c.self.inside.first c.self.view_is c.in-Some.first c.in-Some.is c.self.invariant c.insert.result _ c.args.key (not_from_Decides _ same c.if-eq.false) c.insert.ensures.ok c.insert.ensures.err

pub returns-clause-ok : goal.returns-clause-ok
returns-clause-ok c = more nat_list_cmp_total same_key _ _ c.self.inside.first c.self.view_is c.in-Some.first c.in-Some.is c.insert.result _ c.args.key c.insert.ensures.ok

pub returns-clause-absent : goal.returns-clause-absent
returns-clause-absent c =
    let same = slice_eq-Decides Decides-eqb _ _ _ c.eq.ensures in
    absent_too nat_list_cmp_total same_key _ _ c.self.inside.first c.self.view_is c.in-Some.first c.in-Some.is c.insert.result c.args.key (not_from_Decides _ same c.if-eq.false) c.insert.ensures.absent
