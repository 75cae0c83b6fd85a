use Rattle.std.proofs.Common.{is_some, ap, ◌∙◌}
use Rattle.keymaps.proofs.Views.{empty_after, get_view, places_total, remove_view, same_place}
use Rattle.keymaps.proofs.Firsts.{none_left, fewer_apart, without, there_with, none_last, there_last, without_last}
use Rattle.keymaps.proofs.record_set.RecordSet.pop.Goals as goal

pub invariant_of-self : goal.invariant_of-self
invariant_of-self c =
    rw (remove_view places_total same_place _ _ c.in-Some.record c.in-Some.ensures.updates.0)
    (fewer_apart places_total same_place _ _ _ (ap is_some (get_view places_total _ _ ∙ c.in-Some.ensures.value)) c.self.invariant)

pub returns-in-Some-clause-there : goal.returns-in-Some-clause-there
returns-in-Some-clause-there c = there_with places_total same_place _ _ c.self.inside.first _ c.self.view_is (ap is_some (get_view places_total _ _ ∙ c.in-Some.ensures.value)) c.self.invariant

pub returns-in-Some-clause-some : goal.returns-in-Some-clause-some
returns-in-Some-clause-some c =
    rw (remove_view places_total same_place _ _ c.in-Some.record c.in-Some.ensures.updates.0)
    (without places_total same_place _ _ c.self.inside.first _ c.self.view_is (ap is_some (get_view places_total _ _ ∙ c.in-Some.ensures.value)) c.self.invariant)

pub invariant_of-self-2 : goal.invariant_of-self-2
invariant_of-self-2 c =
    rw (c.take.ensures.after, c.in_default.ensures.unchanged)
    (none_left places_total same_place _ (λ p. get_view places_total _ p ∙ empty_after places_total _ c.in_default.ensures.variant.1 p))

pub returns-clause-there : goal.returns-clause-there
returns-clause-there c = rw c.take.ensures.value (there_last places_total same_place _ _ c.self.inside.first c.self.view_is)

pub returns-clause-some : goal.returns-clause-some
returns-clause-some c = rw (c.take.ensures.after, c.take.ensures.value, c.in_default.ensures.unchanged) (without_last places_total same_place _ _ c.self.inside.first c.self.view_is c.self.invariant)

pub returns-clause-none : goal.returns-clause-none
returns-clause-none c = rw (c.take.ensures.after, c.take.ensures.value, c.in_default.ensures.unchanged) (none_last places_total same_place _ _ c.self.inside.first c.self.view_is c.self.invariant)
