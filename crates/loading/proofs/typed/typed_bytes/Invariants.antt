use Rattle.std.proofs.Common.{length}
use Rattle.loading.specs.Typed.{Gives}
use Rattle.loading.proofs.typed.typed_bytes.Given as goal

-- The first bytes are there, and the rest of the text is left.
abbrev pub invariant-loop-left : goal.invariant-loop-left
invariant-loop-left l = Gives l.text l.bytes.items l.left

abbrev pub decreases-loop-left : goal.decreases-loop-left
decreases-loop-left l = length l.left
