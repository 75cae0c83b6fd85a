use Rattle.std.proofs.Common.{◌∙◌, ℕ, ap, unwrap_or}
use Rattle.pagemem.specs.Overlay.{own_of}
use Rattle.machine.specs.Machine.{cell_at}
use Rattle.machine.specs.StateView.{StateView}
use Rattle.machine.specs.WrittenCells.{devices_of}
use Rattle.machine.proofs.PlainViews.{byte_is}
use Rattle.machine.proofs.StepLemmas.{within}
use Rattle.machine.proofs.state.State.byte.Goals as goal

pub returns : goal.returns
returns c =
    let i = c.self.inside in
    let s = c.args.session.now in
    c.unwrap_or.ensures ∙ (rw (c.written.ensures, c.at.ensures) (ap (λ (f : ℕ → ℕ). unwrap_or (own_of i.overlay c.args.at) (f c.args.at)) c.image.ensures)) ∙ byte_is s i.regs (devices_of i.desk i.changes) (own_of i.overlay) (within i.overlay) c.args.at
    ∙ ap (λ (v : StateView). cell_at s v.state c.args.at) c.self.view_is
