use Rattle.std.proofs.Common.{◌≡◌, ℕ, ◌<◌, IsTrue}
use Rattle.i8080.specs.Registers.{onward}
use Rattle.i8080.proofs.bus.Bus.ready_cells.Given as goal

abbrev pub invariant-loop-i : goal.invariant-loop-i
invariant-loop-i g l = record {
  ready : (j : ℕ) → j < l.i → IsTrue (g.Self.Bus.is_ready l.self (onward l.at j));
  kept : (q : ℕ) → IsTrue (g.Self.Bus.is_ready l.fn.self q) → IsTrue (g.Self.Bus.is_ready l.self q);
  memory : g.Self.Bus.memory l.self ≡ g.Self.Bus.memory l.fn.self;
}
