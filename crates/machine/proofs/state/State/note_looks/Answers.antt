use Rattle.std.proofs.Common.{◌≡◌, ℕ, Option, Some, None, refl, sym, ap, ◌∙◌}
use Rattle.first_looks.specs.declared.question.Question.TheVariants.{Script, Host as OfHost}
use Rattle.first_looks.specs.FirstLooks.{step_of, or_else, step_if}
use Rattle.machine.proofs.state.State.note_looks.Goals as goal

or_none : (o : Option ℕ) → or_else o None ≡ o
or_none None = refl
or_none (Some m) = refl

pub returns-clause-ok : goal.returns-clause-ok
returns-clause-ok c =
    let taken = c.in_default.ensures.taken in (
      record { offsets = λ k. taken.none refl (Script k); files = λ a. taken.none refl (OfHost a) },
      λ q.
          sym (ap (λ b. or_else (step_of c.loop-question.first_looks q) (step_if b c.loop-question.first_looks.seen)) (taken.looks q ∙ taken.none refl q)
          ∙ or_none (step_of c.loop-question.first_looks q))
          ∙ c.loop-question.invariant.same q,
    )
