use Rattle.std.proofs.Common.{is_some, refl, ap, sym, ◌∙◌}
use Rattle.std.specs.FinMap as finmap
use Rattle.std.specs.Cmp.Lexicographic.{nat_list_cmp_total}
use Rattle.keymaps.proofs.Views.{get_view, insert_view, same_key}
use Rattle.keymaps.proofs.map.KeyMap.change.Goals as goal

pub returns-in_default-clause-none : goal.returns-in_default-clause-none
returns-in_default-clause-none g c =
    let found = (rw c.new.ensures at c.get_mut.ensures.value) ∙ sym (get_view nat_list_cmp_total _ _) ∙ ap (λ m. finmap.get m c.args.key.now) c.self.view_is in
    sym (rw c.in_default.is at found)

pub returns-clause-some : goal.returns-clause-some
returns-clause-some g c =
    let there = sym (ap is_some c.in-Some.ensures.value) in
    let h = rw c.new.ensures at ((c.get_mut.follows.holds c.change.new.arg2).3 there) in (
      c.in-Some.place.now,
      c.change.new.arg2,
      sym ((rw c.new.ensures at c.in-Some.ensures.value) ∙ sym (get_view nat_list_cmp_total _ _) ∙ ap (λ m. finmap.get m c.args.key.now) c.self.view_is),
      record { shown = _; shows = refl; left = _; met = c.change.ensures; leaves = refl },
      insert_view nat_list_cmp_total same_key _ _ c.args.key.now c.change.new.arg2 h.0 ∙ ap (λ m. finmap.insert m c.args.key.now c.change.new.arg2) c.self.view_is,
    )
