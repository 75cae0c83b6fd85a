use Rattle.std.proofs.Common.{is_some, ap, ◌∙◌}
use Rattle.std.specs.FinMap as finmap
use Rattle.std.specs.Cmp.Lexicographic.{nat_list_cmp_total}
use Rattle.keymaps.proofs.Views.{seen_at, remove_view, empty_after, same_key}
use Rattle.keymaps.proofs.map.KeyMap.pop.Goals as goal

pub returns-clause-there : goal.returns-clause-there
returns-clause-there g c = rw c.key.ensures (ap is_some (seen_at nat_list_cmp_total _ _ c.self.view_is _ _ c.in-Some.ensures.value))

pub returns-clause-some : goal.returns-clause-some
returns-clause-some g c = rw c.key.ensures (remove_view nat_list_cmp_total same_key _ _ c.in-Some.first.0 c.in-Some.ensures.updates.0 ∙ ap (λ m. finmap.remove m c.in-Some.first.0) c.self.view_is)

pub returns-in_default-clause-none : goal.returns-in_default-clause-none
returns-in_default-clause-none g c = (
  ap finmap.from_entries c.in_default.ensures.unchanged ∙ c.self.view_is,
  λ p. seen_at nat_list_cmp_total _ _ c.self.view_is p _ (empty_after nat_list_cmp_total _ c.in_default.ensures.variant.1 p),
)
