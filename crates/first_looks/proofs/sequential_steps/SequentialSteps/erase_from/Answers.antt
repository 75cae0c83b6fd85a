use Rattle.std.proofs.Common.{arith}
use Rattle.first_looks.proofs.TurnLemmas.{erased_at, last_left}
use Rattle.first_looks.proofs.sequential_steps.SequentialSteps.erase_from.Goals as goal

pub returns-clause-entries : goal.returns-clause-entries
returns-clause-entries c =
    let left = rw c.deref.ensures.value at c.count_below-left.ensures in
    rw (← c.self.view_is, c.truncate.ensures.items)
    (erased_at c.self.inside.in_turn.items c.self.inside.others.entries c.erase_from.new.self.entries c.count_below-left.result c.args.from c.self.invariant left.count left.below left.past c.erase_from.ensures.entries)

pub returns-clause-latest : goal.returns-clause-latest
returns-clause-latest c =
    let left = rw c.deref.ensures.value at c.count_below-left.ensures in
    let last = last_left c.self.inside.in_turn.items c.count_below-left.result c.args.from c.self.invariant.rise left.count left.below in
    let others = c.erase_from.ensures.latest in
    rw (← c.self.view_is, c.truncate.ensures.items) (omega (arith, last.0, others.0), omega (arith, last.1, others.1))
