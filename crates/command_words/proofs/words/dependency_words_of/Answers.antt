use Rattle.std.proofs.Common.{◌∙◌, codes}
use Rattle.clap.specs.Words.{found_of}
use Rattle.clap.proofs.WalkLemmas.{first_value-rows}
use Rattle.command_words.proofs.words.dependency_words_of.Goals as goal

pub returns-clause-says : goal.returns-clause-says
returns-clause-says c = record {
  session = c.in_ok-session_words_of.ensures.says;
  target = c.get_str.ensures ∙ first_value-rows (found_of c.args.matches.now) (codes "make");
  by_step = c.flag.ensures;
}
