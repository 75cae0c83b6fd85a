use Rattle.std.proofs.Common.{get_or, slice_index, false}
use Rattle.pagemem.proofs.LearnedLemmas.{none_learned}
use Rattle.pagemem.proofs.known.Known.new.Goals as goal

pub invariant_of-result-clause-learned : goal.invariant_of-result-clause-learned
invariant_of-result-clause-learned c =
    none_learned (λ q. get_or c.in_ok-marks.marks.items q false) (λ q. slice_index c.in_ok-bytes.bytes.items q) (λ q. get_or c.in_ok-opcodes.opcodes.items q 118) c.in_ok-opcodes.ensures.none

pub invariant_of-result-clause-end : goal.invariant_of-result-clause-end
invariant_of-result-clause-end c = c.in_ok-marks.ensures.none 65536
