use Rattle.std.proofs.Common.{◌≡◌, ◌-◌, ℕ, None, get_or, vec_len}
use Rattle.records.proofs.records.set_extent.Given as goal

abbrev pub invariant-loop-extents : goal.invariant-loop-extents
invariant-loop-extents l = (i : ℕ) → get_or l.extents.items i None ≡ get_or l.initial.extents.items i None

abbrev pub decreases-loop-extents : goal.decreases-loop-extents
decreases-loop-extents l = l.number - vec_len l.extents
