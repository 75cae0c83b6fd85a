use Rattle.std.proofs.Common.{◌≡◌, ◌+◌, IfSome, refl, rules}
use Rattle.interaction_trees.specs.Outcome.{Stop}
use Rattle.machine.specs.Machine.{outcome, session_answers}
use Rattle.machine.specs.Runs.{IsAt}
use Rattle.machine.proofs.RunSteps.{stops_at, taken}
use Rattle.machine.proofs.stretch.slow_step.Goals.{After-from}
use Rattle.machine.proofs.stretch.slow_step.Goals as goal

run : (c : After-from) → IsAt c.args.session.now (c.args.step.now + c.from.result) c.note_step-noted.new.state c.note_step-noted.new.notes
run c =
    let e = c.note_step-noted.ensures in
    taken _ _ _ _ _ c.requires.run _ _ _ c.in-Ok.ensures.step c.requires.within (c.execute_step.ensures.bound refl) e.state e.beneath e.cells e.drained (rw c.look_count-cells.ensures at e.next) e.other _ (search rules)

stops : (c : After-from) → IfSome c.in-Ok.stop (λ cause. outcome (session_answers c.args.session.now) c.note_step-noted.new.state.state ≡ Stop cause)
stops c = stops_at c.args.session.now c.args.state.now c.execute_step.new.state c.note_step-noted.new.state.state c.in-Ok.stop c.in-Ok.ensures.step c.note_step-noted.ensures.state

pub returns-in-Err-noted-clause-run : goal.returns-in-Err-noted-clause-run
returns-in-Err-noted-clause-run c = run (goal.at.returns-in-Err-noted-clause-run c).After-from

pub returns-in_default-clause-run : goal.returns-in_default-clause-run
returns-in_default-clause-run c = run (goal.at.returns-in_default-clause-run c).After-from

pub returns-in_default-2-clause-run : goal.returns-in_default-2-clause-run
returns-in_default-2-clause-run c = run (goal.at.returns-in_default-2-clause-run c).After-from

pub returns-in_default-clause-stops : goal.returns-in_default-clause-stops
returns-in_default-clause-stops c = stops (goal.at.returns-in_default-clause-stops c).After-from

pub returns-in_default-2-clause-stops : goal.returns-in_default-2-clause-stops
returns-in_default-2-clause-stops c = stops (goal.at.returns-in_default-2-clause-stops c).After-from
