use Rattle.std.proofs.Common.{◌≡◌, ◌==◌, ◌≤◌, ℕ, ◌∙◌, ap, sym, rules, arith, slice_set}
use Rattle.first_looks.specs.FirstSteps.{latest_of, step_at}
use Rattle.first_looks.specs.Noting.{or_else, step_if}
use Rattle.first_looks.proofs.EntryLemmas.{entry_at}
use Rattle.first_looks.proofs.OrderLemmas.{latest_more, in_order_more, set_here, set_other}
use Rattle.first_looks.proofs.first_steps.FirstSteps.note.Goals as goal

pub invariant_of-self-then-index : goal.invariant_of-self-then-index
invariant_of-self-then-index c =
    rw c.in_ok-push.ensures.items (in_order_more _ _ _ _ c.self.invariant (rw (← c.self.view_is) at c.requires.latest)
    (set_here c.grow_past.new.steps.items c.args.index c.args.step (omega (arith, c.in_ok-grow_past.ensures.room, c.grow_past.new.steps.ok.0)) c.requires.held)
    (λ k ne. set_other c.grow_past.new.steps.items c.args.index k c.args.step ne ∙ c.grow_past.ensures.same k))

pub returns-in_ok-push-clause-ok : goal.returns-in_ok-push-clause-ok
returns-in_ok-push-clause-ok c = rw (← c.self.view_is) (λ k.
    let after : step_at (slice_set c.grow_past.new.steps.items c.args.index c.args.step) k ≡ or_else (step_at c.self.inside.steps.items k) (step_if (k == c.args.index) c.args.step) = search rules in
    entry_at _ k ∙ after ∙ ap (λ x. or_else x (step_if (k == c.args.index) c.args.step)) (sym (entry_at c.self.inside.steps.items k)))

pub returns-in_ok-push-clause-latest : goal.returns-in_ok-push-clause-latest
returns-in_ok-push-clause-latest c = rw c.in_ok-push.ensures.items (latest_more _ _ _ (rw (← c.self.view_is) at c.requires.latest) (omega arith))
