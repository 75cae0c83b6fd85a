use Rattle.std.proofs.Common.{ap, sym, ◌∙◌}
use Rattle.std.specs.FinMap as finmap
use Rattle.std.specs.Cmp.Lexicographic.{nat_list_cmp_total}
use Rattle.keymaps.proofs.Views.{len_view}
use Rattle.keymaps.proofs.map.KeyMap.len.Goals as goal

pub returns-clause-len : goal.returns-clause-len
returns-clause-len g c = c.len.ensures.len ∙ sym (len_view nat_list_cmp_total _ c.len.ensures.ordered) ∙ ap finmap.len c.self.view_is
