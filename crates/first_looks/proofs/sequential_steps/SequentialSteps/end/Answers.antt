use Rattle.std.proofs.Common.{arith}
use Rattle.first_looks.proofs.TurnLemmas.{length-joined}
use Rattle.first_looks.proofs.sequential_steps.SequentialSteps.end.Goals as goal

pub returns : goal.returns
returns c = rw (← c.self.view_is) (omega (arith, length-joined c.self.inside.in_turn.items c.self.inside.others.entries, c.self.inside.in_turn.ok.0))
