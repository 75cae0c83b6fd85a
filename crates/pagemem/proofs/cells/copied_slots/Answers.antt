use Rattle.std.proofs.Common.{arith}
use Rattle.pagemem.proofs.Laws.{own_alike, ready_alike}
use Rattle.pagemem.proofs.cells.copied_slots.Goals as goal

pub returns-clause-own : goal.returns-clause-own
returns-clause-own c = own_alike c.loop-slot.slot-index _ _ (omega (arith, c.loop-slot.invariant.len)) (omega arith) c.loop-slot.invariant.same

pub returns-clause-ready : goal.returns-clause-ready
returns-clause-ready c = ready_alike c.loop-slot.slot-index _ _ (omega (arith, c.loop-slot.invariant.len)) (omega arith) c.loop-slot.invariant.owned
