use Rattle.std.proofs.Common.{◌≡◌, ◌∙◌, ◌&&◌, [], IfOk, ap, map, string_bytes, subst, sym, true}
use Rattle.std.specs.List.{list_all}
use Rattle.make_rules.proofs.RunPaths.{are_allowed}
use Rattle.make_rules.specs.Carried.{is_carried}
use Rattle.make_rules.specs.RunRules.{IsRule}
use Rattle.dependency_command.proofs.command_line.rule_for.Goals as goal

pub returns : goal.returns
returns c =
    subst (λ targets. IfOk c.rule_of_run.result (λ text. IsRule c.args.words.now targets c.args.listings.now c.args.run.now.session.now text.items))
    (ap (map string_bytes) c.as_slice.ensures.value ∙ c.in_ok-targets.ensures) c.rule_of_run.ensures

pub rule_of_run-requires-clause-targets : goal.rule_of_run-requires-clause-targets
rule_of_run-requires-clause-targets c =
    let allowed = are_allowed c.args.words.now c.args.target [] c.requires.words in
    subst (λ targets. list_all is_carried targets ≡ true) (sym (ap (map string_bytes) c.as_slice.ensures.value ∙ c.in_ok-targets.ensures))
    (ap (λ b. b && true) allowed.path_carried)

pub rule_of_run-requires-clause-words : goal.rule_of_run-requires-clause-words
rule_of_run-requires-clause-words c = (are_allowed c.args.words.now c.args.target [] c.requires.words).words
