use Rattle.std.proofs.Common.{◌+◌, ap, sym, ◌∙◌}
use Rattle.std.specs.Cmp.Lexicographic.{nat_list_cmp_total}
use Rattle.keymaps.proofs.Views.{same_key}
use Rattle.keymaps.proofs.Firsts.{none_counted, one_counted}
use Rattle.keymaps.proofs.keys.KeySet.len.Goals as goal

pub returns-in-None : goal.returns-in-None
returns-in-None c = sym (none_counted nat_list_cmp_total same_key _ _ c.self.inside.first c.self.view_is c.in-None.is c.self.invariant)

pub returns-in-Some : goal.returns-in-Some
returns-in-Some c = ap (λ n. n + 1) c.len.ensures.len ∙ one_counted nat_list_cmp_total same_key _ _ c.self.inside.first c.self.view_is c.in-Some.field-0 c.in-Some.is c.self.invariant
