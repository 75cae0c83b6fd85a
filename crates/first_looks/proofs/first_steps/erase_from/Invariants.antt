use Rattle.std.proofs.Common.{◌≡◌, ◌≤◌, ℕ, vec_len}
use Rattle.first_looks.specs.Noting.{step_below}
use Rattle.first_looks.specs.FirstSteps.{IsInOrder, latest_of, step_at}
use Rattle.first_looks.proofs.first_steps.erase_from.Given as goal

abbrev pub invariant-loop-last : goal.invariant-loop-last
invariant-loop-last l = record {
  left : (k : ℕ) → step_below l.from (step_at l.steps.items k) ≡ step_below l.from (step_at l.initial.steps.items k);
  order : IsInOrder l.steps.items l.looks.items;
  latest : latest_of l.looks.items ≤ latest_of l.initial.looks.items;
}

abbrev pub decreases-loop-last : goal.decreases-loop-last
decreases-loop-last l = vec_len l.looks
