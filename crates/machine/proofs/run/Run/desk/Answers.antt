use Rattle.std.proofs.Common.{ap, sym, ◌∙◌}
use Rattle.machine.specs.PlainState.{PlainState}
use Rattle.machine.specs.StateView.{StateView}
use Rattle.machine.proofs.PlainViews.{state_is}
use Rattle.machine.proofs.run.Run.desk.Goals as goal

pub returns : goal.returns
returns c = ap (λ (v : StateView). v.state.core.desk) c.behind-self.view_is ∙ sym (ap (λ (w : PlainState). w.core.desk) (state_is c.args.self.now _ c.state.ensures.session c.state.ensures.at))
