use Rattle.std.proofs.Common.{◌≡◌, drop, map}
use Rattle.clap.specs.Words.{app_of}
use Rattle.command_words.specs.CommandLine.{with_rules}
use Rattle.command_words.specs.Rows.{rule_of_choice}
use Rattle.command_words.proofs.options.with_options.Given as goal

abbrev pub invariant-loop-option : goal.invariant-loop-option
invariant-loop-option l =
    with_rules (app_of l.command) (map rule_of_choice (drop l.option-index l.options))
    ≡ with_rules (app_of l.initial.command) (map rule_of_choice l.options)
