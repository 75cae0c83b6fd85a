use Rattle.std.proofs.Common.{ap, sym, ◌∙◌}
use Rattle.std.specs.FinMap as finmap
use Rattle.keymaps.proofs.MarkLemmas.{contains_marked}
use Rattle.keymaps.proofs.drives.DriveSet.contains.Goals as goal

pub returns : goal.returns
returns c = sym (contains_marked c.self.inside.marks c.args.drive) ∙ ap (λ m. finmap.contains_key m c.args.drive) c.self.view_is
