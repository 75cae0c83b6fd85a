use Rattle.std.proofs.Common.{◌≡◌, ◌-◌, ◌≤◌, ℕ, IsTrue, drop, length}
use Rattle.i8080.specs.Memory.{with_writes}
use Rattle.i8080.specs.Registers.{onward}
use Rattle.i8080.specs.End.{cells_from}
use Rattle.pagemem.specs.Overlay.{is_ready_at, memory_of}
use Rattle.pagemem.proofs.overlay.Overlay.write_in_pages.Given as goal

abbrev pub invariant-loop-done : goal.invariant-loop-done
invariant-loop-done l = record {
  kept : (q : ℕ) → IsTrue (is_ready_at l.initial.self q) → IsTrue (is_ready_at l.self q);
  within : l.done ≤ length l.values;
  address : l.address ≡ onward l.at l.done;
  rest : with_writes (cells_from l.address (drop l.done l.values)) (memory_of l.self) ≡ with_writes (cells_from l.at l.values) (memory_of l.initial.self);
}

abbrev pub decreases-loop-done : goal.decreases-loop-done
decreases-loop-done l = length l.values - l.done
