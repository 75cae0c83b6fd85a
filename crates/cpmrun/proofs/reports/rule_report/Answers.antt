use Rattle.std.proofs.Common.{ap, is_some, map, string_bytes, ◌∙◌}
use Rattle.std.specs.List.{list_all}
use Rattle.make_rules.specs.Carried.{is_carried}
use Rattle.cpmrun.proofs.Targets.{allowed_there, targets_carried}
use Rattle.cpmrun.proofs.reports.rule_report.Goals as goal

pub rule_of_run-requires-clause-words : goal.rule_of_run-requires-clause-words
rule_of_run-requires-clause-words c = rw c.session.ensures (allowed_there c.args.words.now c.in-Some.path c.in-Some.is c.requires.words).words

pub rule_of_run-requires-clause-targets : goal.rule_of_run-requires-clause-targets
rule_of_run-requires-clause-targets c =
    ap (list_all is_carried) (ap (map string_bytes) c.as_slice.ensures.value ∙ c.in_ok-targets.ensures)
    ∙ targets_carried c.args.words.now c.in-Some.path _ (allowed_there c.args.words.now c.in-Some.path c.in-Some.is c.requires.words) (c.requires.written (ap is_some c.in-Some.is))
