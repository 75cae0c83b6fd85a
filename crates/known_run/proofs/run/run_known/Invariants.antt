use Rattle.std.proofs.Common.{◌-◌, ◌+◌, ◌≤◌}
use Rattle.i8080.specs.Moves.{with_pc}
use Rattle.known_run.specs.KnownRun.{RunsKnown}
use Rattle.known_run.proofs.run.run_known.Given as goal

abbrev pub invariant-loop-count : goal.invariant-loop-count
invariant-loop-count g l = record {
  within : l.left ≤ l.steps;
  ran : RunsKnown g.M.Access.memory g.M.Access.opcode_limit (l.steps - l.left) l.fn.regs l.fn.bus (with_pc l.pc l.regs) l.bus;
}

abbrev pub decreases-loop-count : goal.decreases-loop-count
decreases-loop-count g l = l.left + l.count
