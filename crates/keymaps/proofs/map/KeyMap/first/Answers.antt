use Rattle.std.proofs.Common.{refl}
use Rattle.std.specs.Cmp.Lexicographic.{nat_list_cmp_total}
use Rattle.keymaps.proofs.Views.{seen_at, below_least}
use Rattle.keymaps.proofs.map.KeyMap.first.Goals as goal

pub returns-in-Some-clause-there : goal.returns-in-Some-clause-there
returns-in-Some-clause-there g c =
    let h = rw c.in-Some.ensures.steps at (c.range-all.ensures.in_range tt).1 in
    rw c.key.ensures (seen_at nat_list_cmp_total _ _ c.self.view_is _ _ h.1)

pub returns-in-Some-clause-least : goal.returns-in-Some-clause-least
returns-in-Some-clause-least g c = rw c.key.ensures (
  refl,
  λ x above high.
      let h = rw c.in-Some.ensures.steps at (c.range-all.ensures.in_range tt).2 x (tt, tt) in
      below_least nat_list_cmp_total _ _ c.self.view_is _ x h high,
)

pub returns-in-None-clause-least : goal.returns-in-None-clause-least
returns-in-None-clause-least g c = λ x above. seen_at nat_list_cmp_total _ _ c.self.view_is x _ ((c.range-all.ensures.in_range tt).5 c.in-None.ensures.steps.0 x (tt, tt))
