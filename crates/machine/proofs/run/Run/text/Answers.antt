use Rattle.std.proofs.Common.{ap, sym, ◌∙◌}
use Rattle.machine.specs.PlainState.{PlainState}
use Rattle.machine.specs.StateView.{StateView}
use Rattle.machine.proofs.PlainViews.{state_is}
use Rattle.machine.proofs.TextLemmas.{text_of_run}
use Rattle.machine.proofs.WholeRuns.{text_of_ended}
use Rattle.machine.proofs.run.Run.text.Goals as goal

pub returns-clause-now : goal.returns-clause-now
returns-clause-now c =
    c.text.ensures ∙ ap (λ (v : StateView). v.state.core.desk.text) c.behind-self.view_is
    ∙ sym (ap (λ (w : PlainState). w.core.desk.text) (state_is c.args.self.now _ c.state.ensures.session c.state.ensures.at))

pub returns-clause-begins : goal.returns-clause-begins
returns-clause-begins c =
    rw (c.text.ensures ∙ ap (λ (v : StateView). v.state.core.desk.text) c.behind-self.view_is)
    (text_of_run c.args.self.now.session c.args.self.now.step _ c.state.ensures.session c.state.ensures.at c.requires)

pub returns-clause-whole : goal.returns-clause-whole
returns-clause-whole c stop ends =
    c.text.ensures ∙ ap (λ (v : StateView). v.state.core.desk.text) c.behind-self.view_is
    ∙ text_of_ended c.args.self.now _ stop c.state.ensures.session c.state.ensures.at ends
