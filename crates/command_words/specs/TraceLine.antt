-- The command line of `cpmtrace` as a command of clap, and what is read of its matches. (Over clap's own definitions; the words:
-- this project's own.)
use Rattle.std.specs.Prelude.{◌≡◌, List, [], ◌∷◌, codes}
use Rattle.clap.specs.Words.{App, Kinds, Row, Rule, Text, fault_of, first_of, matches_of}
use Rattle.command_words.specs.CommandLine.{AreSessionWordsOf, IsFlagOf, IsNumberIfAny, flag_rule, limit_rule, option_rule, plain_command}
use Rattle.command_words.specs.CommandLine.{range_rule, text_of, with_input_rules, with_rules}
use Rattle.command_words.specs.declared.trace_words.TraceWords.{TraceWords}

-- The limit of steps and the lines for instructions, and the options that choose steps: by the first and the last step, by an
-- address, by memory and by a file, and the largest number of lines.
abbrev pub trace_rules : List Rule
trace_rules =
    limit_rule ∷ flag_rule (codes "steps") ∷ range_rule (codes "from") 0 4000000000 ∷ range_rule (codes "to") 0 4000000000
    ∷ option_rule (codes "at") ∷ option_rule (codes "writes") ∷ option_rule (codes "reads") ∷ option_rule (codes "file")
    ∷ range_rule (codes "last") 1 4000000000 ∷ []

-- The command line of `cpmtrace` with all its arguments.
abbrev pub trace_line : App
trace_line = with_rules (with_input_rules (plain_command (codes "cpmtrace"))) trace_rules

-- The matches that clap returns for the words of `cpmtrace`, and the kinds of its errors if it returns none.
unfoldable pub trace_matches : List Text → List Row
trace_matches words = matches_of trace_line words

unfoldable pub trace_faults : List Text → Kinds
trace_faults words = fault_of trace_line words

-- The words of `cpmtrace` have the values of the matches.
pub record AreTraceWordsOf (rows : List Row) (words : TraceWords) : Type 0 where
  pub session : AreSessionWordsOf rows words.session
  pub steps : IsFlagOf rows (codes "steps") words.steps
  pub from : IsNumberIfAny rows (codes "from") 0 4000000000 words.from
  pub to : IsNumberIfAny rows (codes "to") 0 4000000000 words.to
  pub at : text_of words.at ≡ first_of (codes "at") rows
  pub writes : text_of words.writes ≡ first_of (codes "writes") rows
  pub reads : text_of words.reads ≡ first_of (codes "reads") rows
  pub file : text_of words.file ≡ first_of (codes "file") rows
  pub last : IsNumberIfAny rows (codes "last") 1 4000000000 words.last
