use Rattle.std.proofs.Common.{◌≡◌, refl, sym, ◌∙◌}
use Rattle.machine.specs.Cause.TheVariants.{Undefined}
use Rattle.machine.specs.PlainState.{plain_run}
use Rattle.streams.proofs.Pushes.{next_pushed}
use Rattle.one_run.specs.Explanations.{words}
use Rattle.one_run.proofs.explanations.push_words.Goals as goal

pub returns-in-Undefined : goal.returns-in-Undefined
unfolding words
returns-in-Undefined g c =
    let run = plain_run c.args.run.now.session.now in
    let cause : run.cause ≡ Undefined c.in-Undefined.field-0 = sym c.cause.ensures ∙ c.in-Undefined.is in
    next_pushed _ _ _ _ _ (words c.args.keeps_disk run) c.push_word-in-Undefined.ensures c.push.ensures.piece
    (rw (cause, ← c.regs-regs.ensures) refl)
