use Rattle.std.proofs.Common.{◌∙◌}
use Rattle.clap.specs.Words.{found_of}
use Rattle.clap.proofs.WalkLemmas.{first_value-rows}
use Rattle.command_words.proofs.Matching.{four_texts}
use Rattle.command_words.proofs.words.texts.Goals as goal

pub returns : goal.returns
returns c =
    let f = found_of c.args.matches.now in
    four_texts _ _ _ _ _ _ _ _
    (c.get_str.ensures ∙ first_value-rows f c.args.a.now) (c.get_str-2.ensures ∙ first_value-rows f c.args.b.now)
    (c.get_str-3.ensures ∙ first_value-rows f c.args.c.now) (c.get_str-4.ensures ∙ first_value-rows f c.args.d.now)
