use Rattle.std.proofs.Common.{ap, slice_index, sym, ◌∙◌}
use Rattle.machine.specs.PlainState.{PlainRun}
use Rattle.machine.proofs.PlainSteps.{cell_is}
use Rattle.one_run.proofs.explanations.byte.Goals as goal

pub returns : goal.returns
returns c =
    c.byte.ensures ∙ sym (cell_is c.args.run.now.session.now c.args.run.now.state.state c.args.at c.ranges.at.fits)
    ∙ ap (λ (r : PlainRun). slice_index r.state.memory c.args.at) c.args.run.now.of_run
