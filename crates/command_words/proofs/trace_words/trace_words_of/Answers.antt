use Rattle.std.proofs.Common.{◌∙◌, codes}
use Rattle.clap.specs.Words.{found_of, rows_of}
use Rattle.clap.proofs.WalkLemmas.{first_value-rows}
use Rattle.command_words.proofs.Matching.{number_if_any}
use Rattle.command_words.proofs.trace_words.trace_words_of.Goals as goal

pub returns-clause-says : goal.returns-clause-says
returns-clause-says c =
    let f = found_of c.args.matches.now in
    record {
      session = c.in_ok-session_words_of.ensures.says;
      steps = c.flag.ensures;
      from = number_if_any (rows_of f) (codes "from") 0 4000000000 c.number.result c.number.ensures.said c.number.ensures.low c.number.ensures.high c.number.ensures.none;
      to = number_if_any (rows_of f) (codes "to") 0 4000000000 c.number-2.result c.number-2.ensures.said c.number-2.ensures.low c.number-2.ensures.high c.number-2.ensures.none;
      at = c.get_str.ensures ∙ first_value-rows f (codes "at");
      writes = c.get_str-2.ensures ∙ first_value-rows f (codes "writes");
      reads = c.get_str-3.ensures ∙ first_value-rows f (codes "reads");
      file = c.get_str-4.ensures ∙ first_value-rows f (codes "file");
      last = number_if_any (rows_of f) (codes "last") 1 4000000000 c.number-3.result c.number-3.ensures.said c.number-3.ensures.low c.number-3.ensures.high c.number-3.ensures.none;
    }
