use Rattle.std.proofs.Common.{◌<◌, ◌≤◌, length, drop}
use Rattle.replay.specs.Ring.{Each}
use Rattle.replay.proofs.ring.latest_within.Given as goal

abbrev pub invariant-loop-left : goal.invariant-loop-left
invariant-loop-left l = record {
  short : l.left ≤ length l.ring.items;
  past : Each (λ c. l.limit < c.step) (drop l.left l.ring.items);
}

abbrev pub decreases-loop-left : goal.decreases-loop-left
decreases-loop-left l = l.left
