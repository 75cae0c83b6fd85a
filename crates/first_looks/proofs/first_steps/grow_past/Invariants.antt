use Rattle.std.proofs.Common.{◌≡◌, ℕ, ◌+◌, ◌-◌, vec_len}
use Rattle.first_looks.specs.FirstSteps.{step_at}
use Rattle.first_looks.proofs.first_steps.grow_past.Given as goal

abbrev pub invariant-loop-steps : goal.invariant-loop-steps
invariant-loop-steps l = (k : ℕ) → step_at l.steps.items k ≡ step_at l.initial.steps.items k

abbrev pub decreases-loop-steps : goal.decreases-loop-steps
decreases-loop-steps l = l.index + 1 - vec_len l.steps
