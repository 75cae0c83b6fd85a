use Rattle.std.proofs.Common.{sym, ap, ◌∙◌}
use Rattle.directory.specs.Entries.{next_entry}
use Rattle.directory.proofs.Walk.{search_first, search_next, taken, left_out}
use Rattle.directory.proofs.search.next_entry.Goals as goal

pub returns-in_default-clause-entry : goal.returns-in_default-clause-entry
returns-in_default-clause-entry g c = c.first_above.ensures.entry ∙ sym (search_first c.args.pattern.now c.args.ex _) ∙ ap (λ a. next_entry c.args.pattern.now c.args.ex a (g.T.DirectoryFiles.files c.args.files.now)) (sym c.in_default.is)

pub returns-in-Some-first_further-clause-entry : goal.returns-in-Some-first_further-clause-entry
returns-in-Some-first_further-clause-entry g c =
    sym (search_next c.in-Some.last c.args.pattern.now c.args.ex _ ∙ taken _ _ _ (sym c.first_further.ensures.entry ∙ c.in-Some-first_further.is)) ∙ ap (λ a. next_entry c.args.pattern.now c.args.ex a (g.T.DirectoryFiles.files c.args.files.now)) (sym c.in-Some.is)

pub returns-clause-entry : goal.returns-clause-entry
returns-clause-entry g c =
    c.first_above-2.ensures.entry ∙ sym (search_next c.in-Some.last c.args.pattern.now c.args.ex _ ∙ left_out _ _ (sym c.first_further.ensures.entry ∙ c.in_default-first_further.is)) ∙ ap (λ a. next_entry c.args.pattern.now c.args.ex a (g.T.DirectoryFiles.files c.args.files.now)) (sym c.in-Some.is)
