use Rattle.std.proofs.Common.{◌∙◌, codes, refl}
use Rattle.clap.specs.Words.{found_of}
use Rattle.clap.proofs.WalkLemmas.{first_value-rows}
use Rattle.command_words.proofs.words.words_of.Goals as goal

pub returns-clause-says : goal.returns-clause-says
returns-clause-says c =
    let f = found_of c.args.matches.now in
    let s = c.in_ok-session.ensures.says in
    record {
      session = record {
        program = s.program;
        tail = s.tail;
        files = refl;
        own = s.own;
        disk = s.disk;
        console = s.console;
        typed = s.typed;
        limit = s.limit;
      };
      out = c.texts.ensures;
      edits = c.get_str.ensures ∙ first_value-rows f (codes "edits");
      deps = c.get_str-2.ensures ∙ first_value-rows f (codes "deps");
      target = c.get_str-3.ensures ∙ first_value-rows f (codes "target");
      trace = c.get_str-4.ensures ∙ first_value-rows f (codes "trace");
      partial = c.flag.ensures;
      dry_run = c.flag-2.ensures;
      explain = c.flag-3.ensures;
      spacing = c.in_ok-number.ensures.said;
      slots = c.in_ok-number-2.ensures.said;
    }
