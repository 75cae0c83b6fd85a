use Rattle.std.proofs.Common.{◌∙◌, ap}
use Rattle.std.proofs.lemmas.Result.{IfOk-weaker}
use Rattle.command_words.specs.CommandLine.{input_rules, with_rules}
use Rattle.command_words.proofs.options.with_inputs.Goals as goal

pub returns : goal.returns
returns c =
    IfOk-weaker c.with_options.result _ _ (λ r h. h ∙ ap (λ a. with_rules a input_rules) c.in_ok-with_positionals.ensures) c.with_options.ensures
