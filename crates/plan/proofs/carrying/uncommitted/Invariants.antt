use Rattle.std.proofs.Common.{◌≡◌, ◌+◌, ◌<◌, ◌≤◌, ◌++◌, List, length, map, reverse}
use Rattle.std.specs.Prelude.{string_bytes, vec_capacity}
use Rattle.plan.specs.Plans.{temporaries}
use Rattle.plan.specs.declared.deed.Deed.{Deed}
use Rattle.plan.proofs.carrying.uncommitted.Given as goal

-- The last deeds were taken, and their temporary paths are kept, the last one first.
abbrev pub invariant-loop-deeds : goal.invariant-loop-deeds
invariant-loop-deeds g l = record {
  within : l.fn.at < length l.deeds.items;
  taken : (rest : List (Deed _)) × (l.fn.deeds.items ≡ l.deeds.items ++ rest) × (temporaries rest ≡ map string_bytes (reverse l.left.items)) × (length l.left.items ≤ length rest);
  room : length l.fn.deeds.items ≤ l.fn.at + 1 + vec_capacity l.left;
}

abbrev pub decreases-loop-deeds : goal.decreases-loop-deeds
decreases-loop-deeds g l = length l.deeds.items
