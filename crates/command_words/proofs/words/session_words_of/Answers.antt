use Rattle.std.proofs.Common.{◌∙◌, inl, refl, sym, codes}
use Rattle.clap.specs.Words.{found_of}
use Rattle.clap.proofs.WalkLemmas.{first_value-rows}
use Rattle.command_words.proofs.Matching.{at_none, text_or_none}
use Rattle.command_words.proofs.words.session_words_of.Goals as goal

pub returns-clause-says : goal.returns-clause-says
returns-clause-says c =
    let f = found_of c.args.matches.now in
    record {
      program = c.in_ok-get_str.ensures ∙ first_value-rows f (codes "PROGRAM");
      tail = text_or_none c.get_str-2.result _ c.unwrap_or.result _ c.unwrap_or.ensures refl (c.get_str-2.ensures ∙ first_value-rows f (codes "TAIL"));
      files = c.files_or_disks.ensures;
      own = c.texts-own.ensures;
      disk = c.texts-disk.ensures;
      console = c.get_str-3.ensures ∙ first_value-rows f (codes "console");
      typed = c.get_str-4.ensures ∙ first_value-rows f (codes "typed");
      limit = c.in_ok-limit_of.ensures.said;
    }

pub returns-in_err-get_str-clause-none : goal.returns-in_err-get_str-clause-none
returns-in_err-get_str-clause-none c =
    at_none c.from_residual.result (inl (sym (first_value-rows (found_of c.args.matches.now) (codes "PROGRAM")) ∙ sym c.in_err-get_str.ensures))
