use Rattle.clap.specs.Words.{found_of}
use Rattle.command_words.proofs.Matching.{flag_said}
use Rattle.command_words.proofs.words.flag.Goals as goal

pub returns : goal.returns
returns c = flag_said _ (found_of c.args.matches.now) c.args.id.now c.get_one.result c.unwrap_or.result c.unwrap_or.ensures c.get_one.ensures.none c.get_one.ensures.value
