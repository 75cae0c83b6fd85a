use Rattle.std.proofs.Common.{sym}
use Rattle.replay.proofs.RunnerLemmas.{get_step, get_none}
use Rattle.replay.proofs.runner.Runner.kept.Goals as goal

pub returns-in-Some : goal.returns-in-Some
returns-in-Some c = rw (← c.self.view_is) (sym (get_step c.self.inside.last_run.text.items c.self.inside.checkpoints.ring.items c.args.index c.in-Some.checkpoint.now (sym c.in-Some.ensures)))

pub returns-in-None : goal.returns-in-None
returns-in-None c = rw (← c.self.view_is) (sym (get_none c.self.inside.last_run.text.items c.self.inside.checkpoints.ring.items c.args.index (sym c.in-None.ensures)))
