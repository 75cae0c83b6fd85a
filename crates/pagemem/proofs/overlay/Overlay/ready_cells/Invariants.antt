use Rattle.std.proofs.Common.{◌≡◌, ◌-◌, ◌≤◌, ◌<◌, ℕ, IsTrue}
use Rattle.i8080.specs.Registers.{onward}
use Rattle.pagemem.specs.Overlay.{is_ready_at, memory_of}
use Rattle.pagemem.proofs.overlay.Overlay.ready_cells.Given as goal

abbrev pub invariant-loop-done : goal.invariant-loop-done
invariant-loop-done l = record {
  ready : (i : ℕ) → i < l.done → IsTrue (is_ready_at l.self (onward l.at i));
  kept : (q : ℕ) → IsTrue (is_ready_at l.initial.self q) → IsTrue (is_ready_at l.self q);
  memory : memory_of l.self ≡ memory_of l.initial.self;
  few : l.done ≤ 65792;
}

abbrev pub decreases-loop-done : goal.decreases-loop-done
decreases-loop-done l = 65792 - l.done
