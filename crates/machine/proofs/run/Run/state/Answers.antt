use Rattle.std.proofs.Common.{◌≡◌, Some, subst}
use Rattle.machine.specs.Machine.{after, session_answers}
use Rattle.machine.specs.Runs.{RunView}
use Rattle.machine.specs.Session.{IsSession}
use Rattle.machine.proofs.run.Run.state.Goals as goal

pub returns-clause-at : goal.returns-clause-at
returns-clause-at c = subst (λ (r : RunView). after (session_answers r.session) r.step ≡ Some c.self.inside.state.state) c.self.view_is c.self.invariant.run.at

pub returns-clause-session : goal.returns-clause-session
returns-clause-session c = subst (λ (r : RunView). IsSession r.session) c.self.view_is c.self.invariant.session
