use Rattle.std.specs.Prelude.{Option, Ok, Some}
use Rattle.std.proofs.Common.{subst, sym}
use Rattle.console_calls.specs.declared.cause.Cause.{Cause}
use Rattle.console_calls.specs.declared.cause.Cause.TheVariants.{WarmBoot, SystemArea}
use Rattle.machine.specs.StateView.{StateView}
use Rattle.machine.specs.WrittenCells.{devices_of}
use Rattle.machine.specs.TakesStep.{view_with, TakesStep}
use Rattle.machine.proofs.StepLemmas.{called, call_fails, fails_as, stopped, next_warm, next_system}
use Rattle.machine.proofs.system_area.enter_system.Goals as goal

pub returns-then-regs-clause-step : goal.returns-then-regs-clause-step
returns-then-regs-clause-step c =
    let old = c.state.inside in
    subst (λ (v : StateView). TakesStep c.args.session.now v (Ok (Some WarmBoot)) (view_with old.regs (devices_of old.desk old.changes) old.overlay)) c.state.view_is
    (stopped _ _ (devices_of old.desk old.changes) old.overlay _ (rw (← c.state.view_is) at c.requires.sound) (next_warm _ _ c.if-regs.true))

pub returns-then-regs-2-clause-step : goal.returns-then-regs-2-clause-step
returns-then-regs-2-clause-step c =
    let old = c.state.inside in
    subst (λ (v : StateView). TakesStep c.args.session.now v (Ok (Some (SystemArea old.regs.pc))) (view_with old.regs (devices_of old.desk old.changes) old.overlay)) c.state.view_is
    (stopped _ _ (devices_of old.desk old.changes) old.overlay _ (rw (← c.state.view_is) at c.requires.sound) (next_system _ _ c.if-regs.false c.if-regs-2.true (rw (← c.state.view_is) at c.requires.area)))

pub returns-then-learns-clause-step : goal.returns-then-learns-clause-step
returns-then-learns-clause-step c =
    let old = c.state.inside in
    let new = c.serve_learning.new in
    subst (λ (v : StateView). TakesStep c.args.session.now v (Ok c.stop_of_call.result) (view_with new.regs (devices_of new.desk new.changes) new.overlay)) c.state.view_is
    (subst (λ (x : Option Cause). TakesStep c.args.session.now (view_with old.regs (devices_of old.desk old.changes) old.overlay) (Ok x) (view_with new.regs (devices_of new.desk new.changes) new.overlay))
    (sym c.stop_of_call.ensures) (called _ _ _ _ _ _ _ old.overlay new.overlay (c.args.state.ghost_name) (rw (← c.state.view_is) at c.requires.sound) c.if-regs-2.false _ (c.in_ok-served.ensures.served c.args.state.ghost_name)))

pub returns-in_err-served-clause-step : goal.returns-in_err-served-clause-step
returns-in_err-served-clause-step c =
    let old = c.state.inside in
    let new = c.serve_learning.new in
    subst (λ (v : StateView). TakesStep c.args.session.now v c.from_residual.result (view_with new.regs (devices_of new.desk new.changes) new.overlay)) c.state.view_is
    (fails_as c.in_err-served.field-0.0 c.from_residual.result c.from_residual.ensures.0
    (call_fails _ _ _ _ _ _ _ old.overlay new.overlay c.args.state.ghost_name (rw (← c.state.view_is) at c.requires.sound) c.if-regs-2.false _ (c.in_err-served.ensures.served c.args.state.ghost_name)))

pub returns-clause-step : goal.returns-clause-step
returns-clause-step c =
    let old = c.state.inside in
    let new = c.serve.new in
    subst (λ (v : StateView). TakesStep c.args.session.now v (Ok c.stop_of_call-2.result) (view_with new.regs (devices_of new.desk new.changes) new.overlay)) c.state.view_is
    (subst (λ (x : Option Cause). TakesStep c.args.session.now (view_with old.regs (devices_of old.desk old.changes) old.overlay) (Ok x) (view_with new.regs (devices_of new.desk new.changes) new.overlay))
    (sym c.stop_of_call-2.ensures) (called _ _ _ _ _ _ _ old.overlay new.overlay (c.args.state.ghost_name) (rw (← c.state.view_is) at c.requires.sound) c.if-regs-2.false _ (c.in_ok-served-2.ensures c.args.state.ghost_name)))

pub returns-in_err-served-2-clause-step : goal.returns-in_err-served-2-clause-step
returns-in_err-served-2-clause-step c =
    let old = c.state.inside in
    let new = c.serve.new in
    subst (λ (v : StateView). TakesStep c.args.session.now v c.from_residual-in_err-served-2.result (view_with new.regs (devices_of new.desk new.changes) new.overlay)) c.state.view_is
    (fails_as c.in_err-served-2.field-0.0 c.from_residual-in_err-served-2.result c.from_residual-in_err-served-2.ensures.0
    (call_fails _ _ _ _ _ _ _ old.overlay new.overlay c.args.state.ghost_name (rw (← c.state.view_is) at c.requires.sound) c.if-regs-2.false _ (c.in_err-served-2.ensures c.args.state.ghost_name)))
