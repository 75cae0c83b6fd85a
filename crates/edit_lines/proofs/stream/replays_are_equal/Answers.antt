use Rattle.edit_lines.proofs.Once.{one_replay_lem}
use Rattle.edit_lines.proofs.stream.replays_are_equal.Goals as goal

pub returns : goal.returns
returns c = one_replay_lem
