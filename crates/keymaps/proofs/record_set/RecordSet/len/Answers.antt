use Rattle.std.proofs.Common.{◌+◌, ap, sym, ◌∙◌}
use Rattle.keymaps.proofs.Views.{len_view, places_total, same_place}
use Rattle.keymaps.proofs.Firsts.{none_counted, one_counted}
use Rattle.keymaps.proofs.record_set.RecordSet.len.Goals as goal

pub returns-in-None : goal.returns-in-None
returns-in-None c = sym (none_counted places_total same_place _ _ c.self.inside.first c.self.view_is c.in-None.is c.self.invariant)

pub returns-in-Some : goal.returns-in-Some
returns-in-Some c =
    ap (λ n. n + 1) (c.len.ensures.len ∙ sym (len_view places_total _ c.len.ensures.ordered))
    ∙ one_counted places_total same_place _ _ c.self.inside.first c.self.view_is c.in-Some.field-0 c.in-Some.is c.self.invariant
