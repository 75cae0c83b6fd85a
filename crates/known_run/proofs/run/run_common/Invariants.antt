use Rattle.std.proofs.Common.{◌-◌, ◌≤◌}
use Rattle.i8080.specs.Moves.{with_pc}
use Rattle.known_run.specs.KnownRun.{RunsKnown}
use Rattle.known_run.proofs.run.run_common.Given as goal

abbrev pub invariant-loop-done : goal.invariant-loop-done
invariant-loop-done g l = record {
  within : l.done ≤ l.steps;
  ran : RunsKnown g.M.Access.memory g.M.Access.opcode_limit l.done (with_pc l.fn.pc l.fn.regs) l.fn.bus (with_pc l.pc l.regs) l.bus;
}

abbrev pub decreases-loop-done : goal.decreases-loop-done
decreases-loop-done g l = l.steps - l.done
