use Rattle.std.proofs.Common.{sym, ◌∙◌}
use Rattle.hostfiles.proofs.LookLemmas.{nothing_asked}
use Rattle.hostfiles.proofs.looks.FileLooks.is_empty.Goals as goal

pub returns-clause-none : goal.returns-clause-none
returns-clause-none c e = nothing_asked _ (sym c.has_no_entry.ensures ∙ e)
