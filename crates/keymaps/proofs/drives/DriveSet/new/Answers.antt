use Rattle.std.proofs.Common.{ap, sym, ◌∙◌}
use Rattle.std.specs.FinMap as finmap
use Rattle.std.specs.Ordering.{nat_cmp}
use Rattle.keymaps.proofs.MarkLemmas.{none_marked}
use Rattle.keymaps.proofs.drives.DriveSet.new.Goals as goal

pub invariant_of-result : goal.invariant_of-result
invariant_of-result c = sym (ap finmap.len (none_marked 256) ∙ finmap.len-empty nat_cmp (Unit {0}))

pub returns : goal.returns
returns c = none_marked 256
