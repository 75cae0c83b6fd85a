use Rattle.std.proofs.Common.{ap, sym, ◌∙◌}
use Rattle.std.specs.FinMap as finmap
use Rattle.std.specs.Cmp.Lexicographic.{nat_list_cmp_total}
use Rattle.keymaps.proofs.Views.{get_view}
use Rattle.keymaps.proofs.map.KeyMap.get.Goals as goal

pub returns : goal.returns
returns g c = (rw c.new.ensures at c.get.ensures.value) ∙ sym (get_view nat_list_cmp_total _ _) ∙ ap (λ m. finmap.get m c.args.key.now) c.self.view_is
