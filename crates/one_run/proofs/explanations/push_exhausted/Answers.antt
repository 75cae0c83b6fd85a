use Rattle.std.proofs.Common.{ap, refl, ◌∙◌}
use Rattle.streams.specs.Pushing.{more}
use Rattle.streams.proofs.Pushes.{next_pushed}
use Rattle.one_run.specs.Explanations.{exhausted_text}
use Rattle.one_run.proofs.explanations.push_exhausted.Goals as goal

pub returns-then-keeps_disk : goal.returns-then-keeps_disk
unfolding exhausted_text
returns-then-keeps_disk g c =
    next_pushed _ _ _ _ _ (exhausted_text c.args.keeps_disk) c.push.ensures.piece c.push-then-keeps_disk.ensures.piece (rw c.if-keeps_disk.true refl)

pub returns-else-keeps_disk : goal.returns-else-keeps_disk
unfolding exhausted_text
returns-else-keeps_disk g c = c.push.ensures.piece ∙ ap (more (g.X.Text.pushed c.args.text.now)) (rw c.if-keeps_disk.false refl)
