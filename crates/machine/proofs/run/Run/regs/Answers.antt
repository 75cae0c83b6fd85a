use Rattle.std.proofs.Common.{ap, sym, ◌∙◌}
use Rattle.machine.specs.PlainState.{PlainState}
use Rattle.machine.specs.StateView.{StateView}
use Rattle.machine.proofs.PlainViews.{state_is}
use Rattle.machine.proofs.run.Run.regs.Goals as goal

pub returns : goal.returns
returns c = ap (λ (v : StateView). v.state.core.regs) c.behind-self.view_is ∙ sym (ap (λ (w : PlainState). w.core.regs) (state_is c.args.self.now _ c.state.ensures.session c.state.ensures.at))
