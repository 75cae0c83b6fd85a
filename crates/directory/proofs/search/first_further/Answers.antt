use Rattle.std.proofs.Common.{sym, ap, ◌∙◌}
use Rattle.std.specs.List.{find}
use Rattle.directory.specs.Entries.{matches}
use Rattle.directory.specs.Parts.{file_entries_from}
use Rattle.directory.proofs.search.first_further.Goals as goal

pub returns-then-not-may_match-clause-entry : goal.returns-then-not-may_match-clause-entry
returns-then-not-may_match-clause-entry g c = sym (c.may_match.ensures.no c.if-not-may_match.true _)

pub returns-clause-entry : goal.returns-clause-entry
returns-clause-entry g c =
    c.first_extent.ensures.entry c.args.pattern.now (c.may_match.ensures.yes c.if-not-may_match.false)
    ∙ ap (λ v. find (matches c.args.pattern.now c.args.ex) (file_entries_from c.args.key.now v c.args.from)) c.file.ensures
