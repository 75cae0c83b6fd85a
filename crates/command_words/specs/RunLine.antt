-- The command line of `cpmrun` as a command of clap, and what is read of its matches. (Over clap's own definitions; the words:
-- this project's own.)
use Rattle.std.specs.Prelude.{◌≡◌, ◌⊎◌, List, [], ◌∷◌, map, codes}
use Rattle.clap.specs.Words.{App, Kinds, Row, Rule, Text, fault_of, first_of, matches_of}
use Rattle.command_words.specs.CommandLine.{AreSessionWordsOf, HasNoNumberWithin, IsFlagOf, IsNumberOf, LacksSessionWords, files_or_disks, flag_rule}
use Rattle.command_words.specs.CommandLine.{limit_rule, number_rule, path_rule, plain_command, text_of, texts_of, with_input_rules, with_rules}
use Rattle.command_words.specs.declared.words.SessionWords.{SessionWords}
use Rattle.command_words.specs.declared.words.Words.{Words}

-- The edit lines, the folders that are written to, the files of the rule for make and of the trace, and the rule's target; whether
-- disks are changed whatever the stop, whether no file is changed, and whether the stop is explained; the limit of steps, and how checkpoints
-- are made.
abbrev pub run_rules : List Rule
run_rules =
    path_rule (codes "edits")
    ∷ path_rule (codes "out") ∷ path_rule (codes "out-b") ∷ path_rule (codes "out-c") ∷ path_rule (codes "out-d")
    ∷ path_rule (codes "deps") ∷ path_rule (codes "target") ∷ path_rule (codes "trace")
    ∷ flag_rule (codes "partial") ∷ flag_rule (codes "dry-run") ∷ flag_rule (codes "explain") ∷ limit_rule
    ∷ number_rule (codes "spacing") 1 1000000000 (codes "10000") ∷ number_rule (codes "slots") 1 4096 (codes "64") ∷ []

-- The command line of `cpmrun` with all its arguments.
abbrev pub run_line : App
run_line = with_rules (with_input_rules (plain_command (codes "cpmrun"))) run_rules

-- The matches that clap returns for the words of `cpmrun`, and the kinds of its errors if it returns none.
unfoldable pub run_matches : List Text → List Row
run_matches words = matches_of run_line words

unfoldable pub run_faults : List Text → Kinds
run_faults words = fault_of run_line words

-- The matches have no program, or a number that is not in its range.
abbrev pub LacksWords : List Row → Type 0
LacksWords rows =
    LacksSessionWords rows ⊎ HasNoNumberWithin rows (codes "spacing") 1 1000000000 ⊎ HasNoNumberWithin rows (codes "slots") 1 4096

-- The words that describe the session.
abbrev pub session_words : Words → SessionWords
session_words w = record {
  program = w.program;
  tail = w.tail;
  files = files_or_disks w.files w.disk;
  own = w.files;
  disk = w.disk;
  console = w.console;
  typed = w.typed;
  limit = w.limit;
}

-- The words of `cpmrun` have the values of the matches.
pub record AreWordsOf (rows : List Row) (words : Words) : Type 0 where
  pub session : AreSessionWordsOf rows (session_words words)
  pub out : map text_of words.out ≡ texts_of rows (codes "out" ∷ codes "out-b" ∷ codes "out-c" ∷ codes "out-d" ∷ [])
  pub edits : text_of words.edits ≡ first_of (codes "edits") rows
  pub deps : text_of words.deps ≡ first_of (codes "deps") rows
  pub target : text_of words.target ≡ first_of (codes "target") rows
  pub trace : text_of words.trace ≡ first_of (codes "trace") rows
  pub partial : IsFlagOf rows (codes "partial") words.partial
  pub dry_run : IsFlagOf rows (codes "dry-run") words.dry_run
  pub explain : IsFlagOf rows (codes "explain") words.explain
  pub spacing : IsNumberOf rows (codes "spacing") words.spacing
  pub slots : IsNumberOf rows (codes "slots") words.slots
