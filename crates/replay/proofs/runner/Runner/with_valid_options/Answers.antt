use Rattle.std.proofs.Common.{ap}
use Rattle.circular_buffer.specs.Buffer.{Buffer}
use Rattle.replay.specs.declared.ring.Checkpoint.{Checkpoint}
use Rattle.replay.proofs.RunnerLemmas.{sound_start, spacing_within}
use Rattle.replay.proofs.runner.Runner.with_valid_options.Goals as goal

pub invariant_of-result : goal.invariant_of-result
invariant_of-result c =
    sound_start c.args.session _ _ (ap (λ (b : Buffer Checkpoint). b.items) c.in_ok-ring.ensures)
    (record { cells = c.new-2.ensures.cells; offsets = c.new-2.ensures.offsets; files = c.new-2.ensures.files; seen = c.new-2.ensures.seen }) (spacing_within c.args.options c.requires)
