-- `cpmdeps` as a program. (This project's profile.)
use Rattle.std.specs.Prelude.{◌≡◌, false, IfSome, [], MatchOption}
use Rattle.command_words.specs.Clashes.{dependency_checks}
use Rattle.command_words.specs.ErrorClass.{HasErrorClass}
use Rattle.command_words.specs.DependencyLine.{AreDependencyWordsOf, dependency_faults, dependency_matches}
use Rattle.command_words.specs.declared.words.DependencyWords.{DependencyWords}
use Rattle.faults.specs.declared.fault.Fault.{Fault}
use Rattle.faults.specs.declared.tool.Tool.TheVariants.{Cpmdeps}
use Rattle.make_rules.specs.RefusedPaths.{FailsPaths, refuses_rule}
use Rattle.requests.specs.Acts.{exits}
use Rattle.requests.specs.Programs.{Program, Task}
use Rattle.dependency_command.specs.AreDependencyWords.{AreDependencyWords}
use Rattle.dependency_command.specs.Answers.{BreaksAnswer, IsAnswer, ReportsAnswer, WritesAnswer}

-- A rule for make is asked for, and it can have the paths; or none is asked for.
abbrev pub AllowsPaths : DependencyWords → Type 0
AllowsPaths w = IfSome w.target (λ target. refuses_rule w.session target [] ≡ false)

-- A rule for make is asked for that cannot have one of the paths, or an allocation failed.
abbrev pub RefusesPaths : DependencyWords → Fault → Type 0
RefusesPaths w fault = MatchOption w.target ⊥ (λ target. FailsPaths w.session target [] fault)

-- The answer about the session of these words is written, and for a rule the line of the stop is reported.
abbrev pub answering : DependencyWords → Task
answering w = record {
  session = w.session;
  Refuses = RefusesPaths w;
  Allows = AllowsPaths w;
  act = λ s listings status. exits status 0 (record {
    Does = λ before after. WritesAnswer (IsAnswer w listings s) before.out after.out × ReportsAnswer w s before.err after.err;
    Leaves = λ before after fault. BreaksAnswer (IsAnswer w listings s) before.out after.out fault;
  });
}

abbrev pub cpmdeps : Program DependencyWords
cpmdeps = record {
  tool = Cpmdeps;
  Has = λ words. HasErrorClass (dependency_faults words);
  Have = λ words. AreDependencyWordsOf (dependency_matches words);
  checks = dependency_checks;
  Are = AreDependencyWords;
  task = answering;
}
