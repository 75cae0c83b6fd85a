use Rattle.std.proofs.Common.{sym, ◌∙◌}
use Rattle.directory.proofs.Walk.{no_match, past_extent}
use Rattle.directory.proofs.search.may_match.Goals as goal

pub returns-then-ex-from-clause-no : goal.returns-then-ex-from-clause-no
returns-then-ex-from-clause-no c = λ no s. past_extent c.args.key.now s c.args.from c.args.pattern.now c.args.ex c.if-ex-ne63.true c.if-ex-from.true

pub returns-clause-no : goal.returns-clause-no
returns-clause-no c = λ no s. no_match c.args.key.now s c.args.from c.args.pattern.now c.args.ex (sym c.is_match.ensures ∙ no)
