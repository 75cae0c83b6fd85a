use Rattle.std.proofs.Common.{rules, ◌≤◌, ap, sym, ◌∙◌}
use Rattle.std.specs.FinMap as finmap
use Rattle.std.specs.Cmp.{nat_cmp_total}
use Rattle.keymaps.proofs.Views.{insert_same}
use Rattle.keymaps.proofs.MarkLemmas.{marked_insert, there_marked, one_more, few}
use Rattle.keymaps.proofs.drives.DriveSet.insert.Goals as goal

pub overflow_add-self : goal.overflow_add-self
overflow_add-self c = let low : c.self.inside.count ≤ 256 = few c.self.inside.marks c.self.inside.count (search rules) c.self.invariant in search (low, rules)

pub invariant_of-self : goal.invariant_of-self
invariant_of-self c = one_more c.self.inside.marks c.self.inside.count c.args.drive (search rules) c.self.invariant (search rules) (search rules)

pub returns-then-not-self-drive : goal.returns-then-not-self-drive
returns-then-not-self-drive c = marked_insert c.self.inside.marks c.args.drive (search rules) ∙ ap (λ m. finmap.insert m c.args.drive tt) c.self.view_is

pub returns-else-not-self-drive : goal.returns-else-not-self-drive
returns-else-not-self-drive c = sym (insert_same nat_cmp_total finmap.nat_cmp-IsAntisymmetric c.args.self.now c.args.drive tt (ap (λ m. finmap.get m c.args.drive) (sym c.self.view_is) ∙ there_marked c.self.inside.marks c.args.drive (search rules)))
