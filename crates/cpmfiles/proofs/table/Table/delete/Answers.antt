use Rattle.std.proofs.Common.{sym, ap, ◌∙◌}
use Rattle.hostfiles.specs.Files.{after_delete}
use Rattle.cpmfiles.proofs.DeleteLaws.{one_deleted, none_deleted}
use Rattle.cpmfiles.proofs.table.Table.delete.Goals as goal

pub returns-then-not-branch-clause-done : goal.returns-then-not-branch-clause-done
returns-then-not-branch-clause-done c =
    none_deleted _ _ c.args.pattern.now _ (sym c.has_wildcard.ensures ∙ c.if-has_wildcard.false)
    (sym c.in_ok-has.ensures.inquires.answer ∙ c.if-not-branch.true) (ap (λ j. j.entries) c.in_ok-has.ensures.inquires.stays)

pub returns-clause-done : goal.returns-clause-done
returns-clause-done c =
    one_deleted _ _ c.args.pattern.now _ (sym c.has_wildcard.ensures ∙ c.if-has_wildcard.false) (sym c.in_ok-has.ensures.inquires.answer ∙ c.if-not-branch.false)
    (c.in_ok-delete.ensures.ok ∙ ap (λ j. after_delete j.entries c.args.pattern.now) c.in_ok-has.ensures.inquires.stays)
