use Rattle.std.proofs.Common.{◌≡◌, Some, subst}
use Rattle.machine.specs.PlainLaid.{plain_after}
use Rattle.machine.specs.Runs.{RunView, seen_by, state_of}
use Rattle.machine.specs.Session.{IsSession}
use Rattle.machine.proofs.PlainViews.{plain_at}
use Rattle.machine.proofs.run.Run.step.Goals as goal

pub returns-clause-at : goal.returns-clause-at
returns-clause-at c =
    let i = c.self.inside in
    subst (λ (r : RunView). plain_after r.session r.step ≡ Some (state_of r)) c.self.view_is
    (plain_at (record { session = i.session.now; step = i.step; seen = seen_by i.notes.noting i.notes.looks.seen }) i.state.state c.self.invariant.session c.self.invariant.run.at)

pub returns-clause-session : goal.returns-clause-session
returns-clause-session c = subst (λ (r : RunView). IsSession r.session) c.self.view_is c.self.invariant.session
