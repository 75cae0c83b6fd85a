use Rattle.std.proofs.Common.{◌≡◌, ℕ, ◌<◌, IsTrue, drop, length}
use Rattle.i8080.specs.Memory.{with_writes}
use Rattle.i8080.specs.Registers.{onward}
use Rattle.i8080.specs.End.{cells_from}
use Rattle.i8080.proofs.bus.Bus.write_cells.Given as goal

abbrev pub invariant-loop-value : goal.invariant-loop-value
invariant-loop-value g l = let first = g.Self.Bus.memory l.fn.self in let now = g.Self.Bus.memory l.self in record {
  ready : (i : ℕ) → i < length l.values → IsTrue (g.Self.Bus.is_ready l.self (onward l.at i));
  kept : (q : ℕ) → IsTrue (g.Self.Bus.is_ready l.fn.self q) → IsTrue (g.Self.Bus.is_ready l.self q);
  address : l.address ≡ onward l.at l.value-index;
  rest : with_writes (cells_from l.address (drop l.value-index l.values)) now ≡ with_writes (cells_from l.at l.values) first;
}
