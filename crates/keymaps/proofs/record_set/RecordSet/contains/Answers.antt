use Rattle.std.proofs.Common.{is_some, ap, sym, ◌∙◌}
use Rattle.std.proofs.lemmas.Bool.Decides.{not_from_Decides}
use Rattle.keymaps.proofs.Views.{get_view, places_total, same_place}
use Rattle.keymaps.proofs.Firsts.{place_told, none_in, there_first, there_rest}
use Rattle.keymaps.proofs.record_set.RecordSet.contains.Goals as goal

pub returns-in-None : goal.returns-in-None
returns-in-None c = ap is_some (sym (none_in places_total same_place _ _ c.self.inside.first c.self.view_is c.in-None.is c.self.invariant (c.args.key.now, c.args.place)))

pub returns-then-eq : goal.returns-then-eq
returns-then-eq c =
    let same = place_told c.in-Some.first c.args.key.now c.args.place _ c.eq.ensures in
    c.if-eq.true ∙ sym (ap is_some (there_first places_total same_place _ _ c.self.inside.first c.self.view_is c.in-Some.first c.in-Some.is (c.args.key.now, c.args.place) (same.0 c.if-eq.true)))

pub returns-else-eq : goal.returns-else-eq
returns-else-eq c =
    let same = place_told c.in-Some.first c.args.key.now c.args.place _ c.eq.ensures in
    c.contains_key.ensures ∙ ap is_some (sym (get_view places_total _ _))
    ∙ there_rest places_total same_place _ _ c.self.inside.first c.self.view_is c.in-Some.first c.in-Some.is (c.args.key.now, c.args.place) (not_from_Decides _ same c.if-eq.false)
