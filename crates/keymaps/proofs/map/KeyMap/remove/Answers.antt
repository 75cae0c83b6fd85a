use Rattle.std.proofs.Common.{ap, sym, ◌∙◌}
use Rattle.std.specs.FinMap as finmap
use Rattle.std.specs.Cmp.Lexicographic.{nat_list_cmp_total}
use Rattle.keymaps.proofs.Views.{get_view, remove_view, same_key}
use Rattle.keymaps.proofs.map.KeyMap.remove.Goals as goal

pub returns-clause-value : goal.returns-clause-value
returns-clause-value g c = (rw c.new.ensures at c.remove.ensures.value) ∙ sym (get_view nat_list_cmp_total _ _) ∙ ap (λ m. finmap.get m c.args.key.now) c.self.view_is

pub returns-clause-removed : goal.returns-clause-removed
returns-clause-removed g c = remove_view nat_list_cmp_total same_key _ _ c.args.key.now (rw c.new.ensures at c.remove.ensures.updates.0) ∙ ap (λ m. finmap.remove m c.args.key.now) c.self.view_is
