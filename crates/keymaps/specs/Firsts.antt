-- Sets with one element stored apart from the others. (This project's own.)
use Rattle.std.specs.Prelude.{◌≡◌, Option, Some, None}
use Rattle.std.specs.declared.cmp.Ordering.{Ordering}
use Rattle.std.specs.FinMap.{FinMap, empty, insert}
use Rattle.keymaps.specs.Walks.{IsAbsent}

-- The set of the others and of the element apart, if there is one.
abbrev pub with_first : {K : Type 0} {R : K → K → Ordering} → Option K → FinMap R (Unit {0}) → FinMap R (Unit {0})
with_first None rest = rest
with_first (Some k) rest = insert rest k tt

-- The element apart is not one of the others, and without an element apart there are no others.
abbrev pub IsFirstApart : {K : Type 0} {R : K → K → Ordering} → Option K → FinMap R (Unit {0}) → Type 0
IsFirstApart None rest = rest ≡ empty
IsFirstApart (Some k) rest = IsAbsent rest k
