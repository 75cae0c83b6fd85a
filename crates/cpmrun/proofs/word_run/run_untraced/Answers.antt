use Rattle.dependencies.proofs.DecideLemmas.{are_dependencies}
use Rattle.cpmrun.proofs.word_run.run_untraced.Goals as goal

pub returns-in-Ok-clause-asked : goal.returns-in-Ok-clause-asked
returns-in-Ok-clause-asked g c =
    let w = c.in-Ok.run' in
    λ notes. are_dependencies c.args.start.session.now w.looks w.state.state w.steps w.cause c.in-Ok.ensures.cold (c.in-Ok.ensures.looks notes)
