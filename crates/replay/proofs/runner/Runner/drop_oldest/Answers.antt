use Rattle.std.proofs.Common.{◌≡◌, ◌-◌, List, ap, arith, length, sym}
use Rattle.std.proofs.lemmas.List.{drop-map}
use Rattle.replay.specs.Resuming.{left_out_step}
use Rattle.replay.specs.RunnerView.{RunnerView, Checkpoint, checkpoint_with_text}
use Rattle.replay.proofs.RunnerLemmas.{all_stand, sound_last}
use Rattle.replay.proofs.runner.Runner.drop_oldest.Goals as goal

pub invariant_of-self : goal.invariant_of-self
invariant_of-self c = sound_last c.self.inside.last_run.session c.self.inside.last_run.text.items _ c.self.inside.checkpoints _ _ c.self.invariant c.truncate_front.ensures

pub returns-then-count-len-clause-dropped : goal.returns-then-count-len-clause-dropped
returns-then-count-len-clause-dropped c =
    let ring = c.self.inside.checkpoints.ring in
    let count : length ring.items - (c.len-len.result - c.args.count) ≡ c.args.count = omega (arith, c.len-len.ensures.len, c.if-count-len.true) in
    let left = sym (drop-map (checkpoint_with_text c.self.inside.last_run.text.items) c.args.count ring.items) in
    rw (← c.self.view_is, c.truncate_front.ensures, count) (ap (λ (cs : List Checkpoint). let r : RunnerView = record { session = c.self.inside.last_run.session; spacing = c.self.inside.checkpoints.spacing; slots = ring.capacity; checkpoints = cs; left_out = left_out_step c.self.inside.checkpoints } in r) left)

pub returns-then-count-len-clause-stand : goal.returns-then-count-len-clause-stand
returns-then-count-len-clause-stand c =
    let sound = sound_last c.self.inside.last_run.session c.self.inside.last_run.text.items _ c.self.inside.checkpoints _ _ c.self.invariant c.truncate_front.ensures in
    all_stand _ _ _ sound.valid
