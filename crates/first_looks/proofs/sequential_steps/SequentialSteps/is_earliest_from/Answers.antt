use Rattle.std.proofs.Common.{leb-true, arith}
use Rattle.first_looks.proofs.TurnLemmas.{earliest}
use Rattle.first_looks.proofs.sequential_steps.SequentialSteps.is_earliest_from.Goals as goal

pub returns-then-index-next : goal.returns-then-index-next
returns-then-index-next c = λ short.
    let steps = c.self.inside.in_turn in
    let others = c.self.inside.others.entries in
    let within = leb-true c.end.result c.len-next.result short in
    rw (← c.self.view_is) (earliest steps.items others c.self.invariant (omega (arith, within, steps.ok.0)) c.args.index (omega (arith, steps.ok.0)))
