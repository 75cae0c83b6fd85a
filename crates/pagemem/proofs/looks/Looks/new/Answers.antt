use Rattle.std.proofs.Common.{arith}
use Rattle.pagemem.proofs.ListingLemmas.{lists_none}
use Rattle.pagemem.proofs.looks.Looks.new.Goals as goal

pub invariant_of-result : goal.invariant_of-result
invariant_of-result c =
    lists_none _ _ (omega (arith, c.in_ok-marks.ensures.len, c.in_ok-marks.marks.ok.0)) (omega (arith, c.in_ok-order.ensures, c.in_ok-order.order.ok.0)) c.in_ok-marks.ensures.none c.in_ok-marks.ensures.counted
