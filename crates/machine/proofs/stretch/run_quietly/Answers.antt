use Rattle.std.proofs.Common.{subst}
use Rattle.machine.specs.StateView.{StateView}
use Rattle.machine.specs.WrittenCells.{devices_of}
use Rattle.machine.specs.TakesStep.{view_with}
use Rattle.machine.specs.Stretch.{RunsQuietly}
use Rattle.machine.proofs.KnownSteps.{runs_quietly}
use Rattle.machine.proofs.stretch.run_quietly.Goals as goal

pub returns-clause-runs : goal.returns-clause-runs
returns-clause-runs c =
    let old = c.state.inside in
    let new = c.run_known.new in
    let d = devices_of old.desk old.changes in
    subst (λ (v : StateView). RunsQuietly c.run_known.result v (view_with new.regs d new.bus)) c.state.view_is (runs_quietly d c.run_known.result old.regs old.overlay new.regs new.bus c.run_known.ensures.ran)
