use Rattle.std.proofs.Common.{Some, ◌-◌, ◌≤◌}
use Rattle.std.specs.Prelude.{option_copied}
use Rattle.first_looks.proofs.LeastLemmas.{IsTouchUpTo}
use Rattle.first_looks.proofs.file_steps.FileSteps.touch_of_records.Given as goal

abbrev pub invariant-loop-number : goal.invariant-loop-number
invariant-loop-number l = (l.number ≤ l.end) × IsTouchUpTo l.number (option_copied l.old) (option_copied l.new) (Some l.steps) l.least l.touch

abbrev pub decreases-loop-number : goal.decreases-loop-number
decreases-loop-number l = l.end - l.number
