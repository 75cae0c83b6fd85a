-- The command line of `cpmdeps` as a command of clap, and what is read of its matches. (Over clap's own definitions; the words:
-- this project's own.)
use Rattle.std.specs.Prelude.{◌≡◌, List, [], ◌∷◌, codes}
use Rattle.clap.specs.Words.{App, Kinds, Row, Rule, Text, fault_of, first_of, matches_of}
use Rattle.command_words.specs.CommandLine.{AreSessionWordsOf, IsFlagOf, flag_rule, limit_rule, path_rule, plain_command, text_of}
use Rattle.command_words.specs.CommandLine.{with_input_rules, with_rules}
use Rattle.command_words.specs.declared.words.DependencyWords.{DependencyWords}

-- The limit of steps, and the form of the listing.
abbrev pub dependency_rules : List Rule
dependency_rules = limit_rule ∷ flag_rule (codes "by-step") ∷ path_rule (codes "make") ∷ []

-- The command line of `cpmdeps` with all its arguments.
abbrev pub dependency_line : App
dependency_line = with_rules (with_input_rules (plain_command (codes "cpmdeps"))) dependency_rules

-- The matches that clap returns for the words of `cpmdeps`, and the kinds of its errors if it returns none.
unfoldable pub dependency_matches : List Text → List Row
dependency_matches words = matches_of dependency_line words

unfoldable pub dependency_faults : List Text → Kinds
dependency_faults words = fault_of dependency_line words

-- The words of `cpmdeps` have the values of the matches.
pub record AreDependencyWordsOf (rows : List Row) (words : DependencyWords) : Type 0 where
  pub session : AreSessionWordsOf rows words.session
  pub target : text_of words.target ≡ first_of (codes "make") rows
  pub by_step : IsFlagOf rows (codes "by-step") words.by_step
