use Rattle.command_words.proofs.words.Words.clash.Goals as goal

pub returns-clause-any : goal.returns-clause-any
returns-clause-any c = rw c.given-dry_run.ensures at c.first_failed.ensures.any

pub returns-clause-first : goal.returns-clause-first
returns-clause-first c = rw c.given-dry_run.ensures at c.first_failed.ensures.first
