use Rattle.std.proofs.Common.{arith, sym, ap, take, ◌∙◌, Option}
use Rattle.std.specs.Prelude.{slice_index}
use Rattle.machine.specs.SavedState.{SavedState, state_with_text}
use Rattle.machine.specs.PlainLaid.{laid_state}
use Rattle.machine.proofs.PlainSteps.{cell_is}
use Rattle.replay.specs.LastState.{last_state}
use Rattle.machine.specs.PlainState.{PlainRun}
use Rattle.replay.proofs.report.Report.cell.Goals as goal

pub returns : goal.returns
returns c =
    let s = c.args.self.now.last_run.now.session in
    let text = c.args.self.now.last_run.now.text.items in
    let kept = c.in-Some.kept in
    c.cell.ensures (take kept.length text)
    ∙ sym (cell_is s (state_with_text kept (take kept.length text)) c.args.a (omega arith))
    ∙ ap (λ (end : Option SavedState). slice_index (laid_state s (last_state end text)).memory c.args.a) (sym c.in-Some.is)
    ∙ ap (λ (run : PlainRun). slice_index run.state.memory c.args.a) c.args.self.now.of_run
