use Rattle.std.proofs.Common.{Some, is_some, ap, sym, ◌∙◌}
use Rattle.std.specs.FinMap as finmap
use Rattle.std.specs.Cmp.Lexicographic.{nat_list_cmp_total}
use Rattle.keymaps.proofs.Views.{get_view, insert_view, same_key}
use Rattle.keymaps.proofs.map.KeyMap.replace.Goals as goal

pub returns-in_default-clause-value : goal.returns-in_default-clause-value
returns-in_default-clause-value g c =
    let found = (rw c.new.ensures at c.get_mut.ensures.value) ∙ sym (get_view nat_list_cmp_total _ _) ∙ ap (λ m. finmap.get m c.args.key.now) c.self.view_is in
    rw c.in_default.is at found

pub returns-clause-value : goal.returns-clause-value
returns-clause-value g c = ap Some c.replace.ensures.value ∙ (rw c.new.ensures at c.in-Some.ensures.value) ∙ sym (get_view nat_list_cmp_total _ _) ∙ ap (λ m. finmap.get m c.args.key.now) c.self.view_is

pub returns-clause-some : goal.returns-clause-some
returns-clause-some g c = λ _.
    let there = sym (ap is_some c.in-Some.ensures.value) in
    let h = rw c.new.ensures at ((c.get_mut.follows.holds c.replace.new.dest).3 there) in
    insert_view nat_list_cmp_total same_key _ _ c.args.key.now c.replace.new.dest h.0
    ∙ ap (finmap.insert _ c.args.key.now) c.replace.ensures.after
    ∙ ap (λ m. finmap.insert m c.args.key.now c.args.value) c.self.view_is
