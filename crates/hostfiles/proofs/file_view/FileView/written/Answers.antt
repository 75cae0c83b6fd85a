use Rattle.std.proofs.Common.{ap, sym, ◌∙◌, unwrap_or, option_copied}
use Rattle.std.specs.Ordering.{nat_cmp}
use Rattle.std.specs.FinMap.{get, get-empty}
use Rattle.hostfiles.specs.Files.{untouched_entry}
use Rattle.hostfiles.proofs.file_view.FileView.written.Goals as goal

pub returns-in-None : goal.returns-in-None
returns-in-None c = sym (ap (λ e. get (unwrap_or e untouched_entry).records c.args.k) (sym c.args.self.now.own ∙ ap option_copied c.in-None.is) ∙ get-empty nat_cmp c.args.k)
