use Rattle.std.proofs.Common.{◌∙◌, [], ◌∷◌, Err, ap, inl, inr, refl, subst, sym}
use Rattle.std.proofs.lemmas.Result.{err_from_is_err_and}
use Rattle.make_rules.specs.RunRules.{IsRule}
use Rattle.dependency_command.proofs.command_line.write_rule.Goals as goal

pub rule_for-requires-clause-run : goal.rule_for-requires-clause-run
rule_for-requires-clause-run g c = rw c.in-Ok.ensures.session c.in-Ok.ensures.looks

pub returns-in_err-text-clause-fault : goal.returns-in_err-text-clause-fault
returns-in_err-text-clause-fault g c =
    let left = err_from_is_err_and c.from_residual.result c.from_residual.ensures.1 in
    rw (left.1 ∙ ap Err left.2) (inr (refl, refl))

pub returns-in-Ok-write_all-clause-done : goal.returns-in-Ok-write_all-clause-done
returns-in-Ok-write_all-clause-done g c = (
  c.as_slice.result.now,
  subst (IsRule c.args.words.now (c.args.target.now ∷ []) c.args.loaded.now.listings c.args.loaded.now.session) (sym c.as_slice.ensures.value)
      (rw c.in-Ok.ensures.session at c.in_ok-text.ensures),
  c.in-Ok-write_all.ensures,
)

pub returns-clause-fault : goal.returns-clause-fault
returns-clause-fault g c =
    inl (
      refl,
      (
        c.as_slice.result.now,
        subst (IsRule c.args.words.now (c.args.target.now ∷ []) c.args.loaded.now.listings c.args.loaded.now.session) (sym c.as_slice.ensures.value)
            (rw c.in-Ok.ensures.session at c.in_ok-text.ensures),
        c.in-Err.ensures,
      ),
    )
