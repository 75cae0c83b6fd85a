use Rattle.std.proofs.Common.{◌≡◌, Some, refl, subst, sym}
use Rattle.machine.specs.Runs.{RunView, seen_by}
use Rattle.machine.proofs.PlainViews.{ends_by, stops_here}
use Rattle.machine.proofs.RunSteps.{all_noted, none_noted}
use Rattle.machine.proofs.run.Run.advance.Goals as goal

pub returns-clause-ends : goal.returns-clause-ends
returns-clause-ends c =
    let ran = c.run_until in
    ends_by c.self.inside.session.now c.self.inside.step c.args.end ran.new.step (seen_by ran.new.notes.noting ran.new.notes.looks.seen) ran.new.state.state c.self.invariant.session ran.result ran.ensures.runs

pub returns-clause-stops : goal.returns-clause-stops
returns-clause-stops c =
    let ran = c.run_until in
    stops_here c.self.inside.session.now c.self.inside.step c.args.end ran.new.step (seen_by ran.new.notes.noting ran.new.notes.looks.seen) ran.new.state.state c.self.invariant.session ran.result ran.ensures.runs

pub returns-clause-noted : goal.returns-clause-noted
returns-clause-noted c started =
    let ran = c.run_until in
    let i = c.self.inside in
    all_noted i.step ran.new.step i.notes.noting ran.new.notes.noting i.notes.looks.seen ran.new.notes.looks.seen ran.result ran.ensures.runs.within.0 (ran.ensures.noted refl) ran.ensures.seen
    (subst (λ (r : RunView). r.seen ≡ Some r.step) (sym c.self.view_is) started)

pub returns-clause-failed : goal.returns-clause-failed
returns-clause-failed c = none_noted c.run_until.new.notes.noting c.run_until.new.notes.looks.seen c.run_until.result c.run_until.ensures.off
