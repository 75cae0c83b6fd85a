use Rattle.std.proofs.Common.{◌<◌, Some, length, ltb-true, arith, ap, sym, ◌∙◌}
use Rattle.std.proofs.lemmas.List.{get_or_default}
use Rattle.first_looks.proofs.TurnLemmas.{in_turn_at, other_at}
use Rattle.first_looks.proofs.sequential_steps.SequentialSteps.get.Goals as goal

pub returns-in-Some : goal.returns-in-Some
returns-in-Some c =
    let steps = c.self.inside.in_turn.items in
    let here = rw c.deref.ensures.value at c.in-Some.ensures.lookup in
    let inside : c.args.index < length steps = ltb-true c.args.index (length steps) (sym here.0) in
    let there = in_turn_at steps c.self.inside.others.entries c.args.index inside in
    rw (← c.self.view_is) (ap (λ n. Some n) (c.from.ensures ∙ here.1 ∙ get_or_default steps c.args.index _ 0 inside) ∙ sym there)

pub returns-in-None : goal.returns-in-None
returns-in-None c =
    let past = rw c.deref.ensures.value at c.in-None.ensures.lookup in
    rw (← c.self.view_is) (c.get-in-None.ensures ∙ sym (other_at c.self.inside.in_turn.items c.self.inside.others.entries c.args.index (omega arith)))
