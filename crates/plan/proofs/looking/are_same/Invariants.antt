use Rattle.std.proofs.Common.{◌≡◌, take}
use Rattle.plan.proofs.looking.are_same.Given as goal

-- The first records are the same.
abbrev pub invariant-loop-number : goal.invariant-loop-number
invariant-loop-number l = take l.number l.one ≡ take l.number l.other
