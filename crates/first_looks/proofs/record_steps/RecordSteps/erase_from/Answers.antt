use Rattle.std.proofs.Common.{rules}
use Rattle.first_looks.proofs.RecordLemmas.{erased_in, within_erased, none_erased}
use Rattle.first_looks.proofs.record_steps.RecordSteps.erase_from.Goals as goal

pub returns-then-self-from-clause-entries : goal.returns-then-self-from-clause-entries
returns-then-self-from-clause-entries c =
    rw (← c.self.view_is) (none_erased c.args.from c.self.inside.latest c.self.inside.files.entries c.if-self-from.true c.self.invariant)

pub invariant_of-self : goal.invariant_of-self
invariant_of-self c =
    within_erased _ c.args.from _ (λ k v b w f' t. search rules) c.self.inside.files.entries c.retain.new.self.entries c.retain.ensures.filtered

pub returns-clause-entries : goal.returns-clause-entries
returns-clause-entries c =
    rw (← c.self.view_is) (erased_in _ c.args.from _ (λ k v b w f' t. search rules) c.self.inside.files.entries c.retain.new.self.entries c.retain.ensures.filtered)
