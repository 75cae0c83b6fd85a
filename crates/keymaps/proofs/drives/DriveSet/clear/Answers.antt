use Rattle.std.proofs.Common.{ap, sym, ◌∙◌}
use Rattle.std.specs.FinMap as finmap
use Rattle.std.specs.Ordering.{nat_cmp}
use Rattle.keymaps.proofs.MarkLemmas.{none_marked}
use Rattle.keymaps.proofs.drives.DriveSet.clear.Goals as goal

pub invariant_of-self : goal.invariant_of-self
invariant_of-self c = sym (ap finmap.len (none_marked 256) ∙ finmap.len-empty nat_cmp (Unit {0}))

pub returns-then-self-ne0 : goal.returns-then-self-ne0
returns-then-self-ne0 c = none_marked 256

pub returns-else-self-ne0 : goal.returns-else-self-ne0
returns-else-self-ne0 c = finmap.empty_of_len c.args.self.now (ap finmap.len (sym c.self.view_is) ∙ sym c.self.invariant ∙ c.if-self-ne0.false)
