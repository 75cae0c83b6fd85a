use Rattle.std.proofs.Common.{◌≡◌, ◌∙◌, codes, false, subst, sym}
use Rattle.std.specs.Prelude.{MatchBool}
use Rattle.clap.specs.Words.{found_of, rows_of}
use Rattle.command_words.specs.CommandLine.{IsNumberOf, default_limit, has_limit}
use Rattle.command_words.proofs.Matching.{at_none, is_given}
use Rattle.command_words.proofs.words.limit_of.Goals as goal

pub returns-then-is_none-clause-said : goal.returns-then-is_none-clause-said
returns-then-is_none-clause-said c =
    let f = found_of c.args.matches.now in
    let absent : has_limit (rows_of f) ≡ false = is_given f (codes "limit") c.get_str.result c.get_str.ensures ∙ c.if-is_none.ensures in
    let limit = c.default_limit.result in
    subst (λ b. MatchBool b (IsNumberOf (rows_of f) (codes "limit") limit) (limit ≡ default_limit c.args.disk.now)) (sym absent) c.default_limit.ensures

pub returns-clause-given : goal.returns-clause-given
returns-clause-given c =
    at_none c.number.result (is_given (found_of c.args.matches.now) (codes "limit") c.get_str.result c.get_str.ensures ∙ c.if-is_none.ensures)
