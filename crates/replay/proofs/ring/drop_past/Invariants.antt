use Rattle.std.proofs.Common.{◌≡◌, ◌<◌, ◌++◌, List, length}
use Rattle.replay.specs.declared.ring.Checkpoint.{Checkpoint}
use Rattle.replay.specs.Ring.{Each, Rising}
use Rattle.replay.proofs.ring.drop_past.Given as goal

abbrev pub invariant-loop-checkpoint : goal.invariant-loop-checkpoint
invariant-loop-checkpoint l = record {
  gone : List Checkpoint;
  parts : l.initial.ring.items ≡ l.ring.items ++ gone;
  past : Each (λ c. l.touch < c.step) gone;
  rising : Rising l.ring.items;
  capacity : l.ring.capacity ≡ l.initial.ring.capacity;
}

abbrev pub decreases-loop-checkpoint : goal.decreases-loop-checkpoint
decreases-loop-checkpoint l = length l.ring.items
