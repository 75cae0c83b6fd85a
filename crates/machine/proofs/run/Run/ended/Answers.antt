use Rattle.std.proofs.Common.{◌∙◌, Some, ap, subst, sym}
use Rattle.machine.specs.Inputs.{Session}
use Rattle.machine.specs.Runs.{EndsBy, RunView, asked_by, seen_by}
use Rattle.machine.specs.Session.{IsSession}
use Rattle.machine.proofs.ColdLemmas.{reports_run}
use Rattle.machine.proofs.WholeRuns.{is_cold, noted_whole}
use Rattle.machine.proofs.run.Run.ended.Goals as goal

pub returns-clause-cold : goal.returns-clause-cold
returns-clause-cold c =
    let i = c.self.inside in
    let ends = subst (λ (r : RunView). EndsBy r c.args.self.session.limit c.args.stop) (sym c.self.view_is) c.requires in
    is_cold c.args.self.session (record { session = i.session.now; step = i.step; seen = seen_by i.notes.noting i.notes.looks.seen }) (ap (λ (r : RunView). r.session) c.self.view_is) i.state.state c.self.invariant.run.at c.args.stop _ ends c.unwrap_or.ensures

pub invariant_of-result : goal.invariant_of-result
invariant_of-result c =
    let i = c.self.inside in
    let same = ap (λ (r : RunView). r.session) c.self.view_is in
    let ends = subst (λ (r : RunView). EndsBy r c.args.self.session.limit c.args.stop) (sym c.self.view_is) c.requires in
    record {
      of_run = reports_run c.args.self.session i.session.now i.state.state i.step c.unwrap_or.result (subst (λ (s : Session). IsSession s) same c.self.invariant.session) same
          (is_cold c.args.self.session (record { session = i.session.now; step = i.step; seen = seen_by i.notes.noting i.notes.looks.seen }) same i.state.state c.self.invariant.run.at c.args.stop _ ends c.unwrap_or.ensures);
    }

pub returns-clause-looks : goal.returns-clause-looks
returns-clause-looks c noted =
    let i = c.self.inside in
    let ends = subst (λ (r : RunView). EndsBy r c.args.self.session.limit c.args.stop) (sym c.self.view_is) c.requires in
    noted_whole c.args.self.session (record { session = i.session.now; step = i.step; seen = seen_by i.notes.noting i.notes.looks.seen }) (ap (λ (r : RunView). r.session) c.self.view_is) i.notes.looks i.notes.noting c.args.stop
    c.self.invariant.run.first (ap (λ (r : RunView). r.seen) c.self.view_is ∙ noted ∙ ap (λ (r : RunView). Some (asked_by r.step c.args.stop)) (sym c.self.view_is)) ends
