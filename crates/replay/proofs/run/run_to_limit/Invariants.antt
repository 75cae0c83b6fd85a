use Rattle.std.proofs.Common.{◌≡◌, ◌+◌, ◌-◌, ◌%◌, ◌≤◌, ◌⊎◌}
use Rattle.machine.specs.Runs.{IsAt, IsNoting}
use Rattle.replay.specs.Resuming.{LeavesCheckpoints, left_out_step}
use Rattle.replay.specs.Ring.{AddsEach}
use Rattle.replay.proofs.run.run_to_limit.Given as goal

abbrev pub invariant-loop-n : goal.invariant-loop-n
invariant-loop-n l = record {
  run : IsAt l.session l.n l.state l.checkpoints.notes;
  on : IsNoting l.checkpoints.notes.noting;
  within : (l.from ≤ l.n) × (l.n ≤ l.limit);
  meter : l.meter + l.from ≡ l.initial.meter + l.n;
  leaves : LeavesCheckpoints l.session l.newest l.n l.initial.checkpoints l.checkpoints;
  adds : AddsEach l.initial.checkpoints.ring.items l.checkpoints.ring.items l.initial.checkpoints.ring.capacity l.from l.n l.limit l.spacing (left_out_step l.checkpoints);
  spot : (l.n ≡ l.from) ⊎ ((l.n % l.spacing ≡ 0) ⊎ (l.n ≡ l.limit));
}

abbrev pub decreases-loop-n : goal.decreases-loop-n
decreases-loop-n l = l.limit - l.n
