use Rattle.std.proofs.Common.{ap, ◌∙◌}
use Rattle.std.specs.FinMap as finmap
use Rattle.std.specs.Cmp.Lexicographic.{nat_list_cmp_total}
use Rattle.keymaps.proofs.Views.{insert_view, on_err, same_key, seen_at}
use Rattle.keymaps.proofs.map.KeyMap.insert.Goals as goal

pub returns-clause-ok : goal.returns-clause-ok
returns-clause-ok g c = insert_view nat_list_cmp_total same_key _ _ c.args.key c.args.value (rw c.new.ensures at c.in_ok-insert.ensures.updates.0) ∙ ap (λ m. finmap.insert m c.args.key c.args.value) c.self.view_is

pub returns-in_err-insert-clause-absent : goal.returns-in_err-insert-clause-absent
returns-in_err-insert-clause-absent g c = on_err c.from_residual.result (seen_at nat_list_cmp_total _ _ c.self.view_is _ _ (rw c.new.ensures at c.in_err-insert.ensures.absent))
