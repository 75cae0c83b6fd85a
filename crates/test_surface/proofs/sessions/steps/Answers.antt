use Rattle.machine.proofs.RunLemmas.{after_zero}
use Rattle.machine.specs.Machine.{session_answers, start, outcome}
use Rattle.test_surface.proofs.sessions.steps.Goals as goal

-- After 0 steps the state is the loaded state.
pub step-requires-clause-at : goal.step-requires-clause-at
step-requires-clause-at c = (0, after_zero (outcome (session_answers c.args.session.now)) start _ c.in_ok-state.ensures.state)
