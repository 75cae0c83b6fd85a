use Rattle.std.proofs.Common.{subst, sym, Option, Ok, ◌<◌}
use Rattle.console_calls.specs.declared.cause.Cause.{Cause}
use Rattle.machine.specs.StateView.{StateView}
use Rattle.machine.specs.Step.{system_area}
use Rattle.machine.specs.WrittenCells.{devices_of}
use Rattle.machine.specs.TakesStep.{view_with, TakesStep}
use Rattle.machine.proofs.FitLemmas.{sound_reached}
use Rattle.machine.proofs.StepLemmas.{fails_as, instructed, instruction_fails}
use Rattle.machine.proofs.stretch.execute_step.Goals as goal

pub enter_system-requires-clause-sound : goal.enter_system-requires-clause-sound
enter_system-requires-clause-sound c = sound_reached c.args.session.now _ c.requires.at

pub returns-then-learns-clause-step : goal.returns-then-learns-clause-step
returns-then-learns-clause-step c =
    let old = c.state.inside in
    let new = c.execute_learning.new in
    let d = devices_of old.desk old.changes in
    let low : old.regs.pc < system_area = c.if-state-ge-SYSTEM_AREA.false in
    let took = instructed c.args.session.now old.regs new.regs d old.overlay new.overlay (rw (← c.state.view_is) at (sound_reached c.args.session.now _ c.requires.at)) low _ c.in_ok-did.ensures.performs in
    subst (λ (v : StateView). TakesStep c.args.session.now v (Ok c.stop_of_instruction.result) (view_with new.regs d new.overlay)) c.state.view_is
    (subst (λ (x : Option Cause). TakesStep c.args.session.now (view_with old.regs d old.overlay) (Ok x) (view_with new.regs d new.overlay)) (sym c.stop_of_instruction.ensures) took)

pub returns-in_err-did-clause-step : goal.returns-in_err-did-clause-step
returns-in_err-did-clause-step c =
    let old = c.state.inside in
    let new = c.execute_learning.new in
    let d = devices_of old.desk old.changes in
    let low : old.regs.pc < system_area = c.if-state-ge-SYSTEM_AREA.false in
    let took = instruction_fails c.args.session.now old.regs new.regs d old.overlay new.overlay (rw (← c.state.view_is) at (sound_reached c.args.session.now _ c.requires.at)) low _ c.in_err-did.ensures.performs in
    subst (λ (v : StateView). TakesStep c.args.session.now v c.from_residual.result (view_with new.regs d new.overlay)) c.state.view_is (fails_as c.in_err-did.field-0.0 c.from_residual.result c.from_residual.ensures.0 took)

pub returns-clause-step : goal.returns-clause-step
returns-clause-step c =
    let old = c.state.inside in
    let new = c.execute_over.new in
    let d = devices_of old.desk old.changes in
    let low : old.regs.pc < system_area = c.if-state-ge-SYSTEM_AREA.false in
    let took = instructed c.args.session.now old.regs new.regs d old.overlay new.overlay (rw (← c.state.view_is) at (sound_reached c.args.session.now _ c.requires.at)) low _ c.in_ok-did-2.ensures in
    subst (λ (v : StateView). TakesStep c.args.session.now v (Ok c.stop_of_instruction-2.result) (view_with new.regs d new.overlay)) c.state.view_is
    (subst (λ (x : Option Cause). TakesStep c.args.session.now (view_with old.regs d old.overlay) (Ok x) (view_with new.regs d new.overlay)) (sym c.stop_of_instruction-2.ensures) took)

pub returns-in_err-did-2-clause-step : goal.returns-in_err-did-2-clause-step
returns-in_err-did-2-clause-step c =
    let old = c.state.inside in
    let new = c.execute_over.new in
    let d = devices_of old.desk old.changes in
    let low : old.regs.pc < system_area = c.if-state-ge-SYSTEM_AREA.false in
    let took = instruction_fails c.args.session.now old.regs new.regs d old.overlay new.overlay (rw (← c.state.view_is) at (sound_reached c.args.session.now _ c.requires.at)) low _ c.in_err-did-2.ensures in
    subst (λ (v : StateView). TakesStep c.args.session.now v c.from_residual-in_err-did-2.result (view_with new.regs d new.overlay)) c.state.view_is (fails_as c.in_err-did-2.field-0.0 c.from_residual-in_err-did-2.result c.from_residual-in_err-did-2.ensures.0 took)
