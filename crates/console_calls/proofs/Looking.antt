-- The looks of a call that fails after some reads.
use Rattle.std.proofs.Common.{◌≡◌, ℕ}
use Rattle.i8080.specs.Memory.{Own, Looks, Extends, look}
use Rattle.i8080.proofs.LookLemmas.{extends_past_one, extends_past_two, extends_twice}
use Rattle.i8080.proofs.WriteLookLemmas.{extends_by_one, extends_by_two}
use Rattle.i8080.proofs.BoundLemmas.{bound_here, bound_more, bound_all}

-- One more look.
pub one_more : (own : Own) (first now new : Looks) (a : ℕ) → Extends first now → new ≡ look own now a → Extends first new
one_more own first now new a h e = extends_twice first now new h (extends_by_one own now new a e)

-- The rules for a call that fails after it read a cell or the return address.
pub ruleset until_it_failed = (extends_by_one, extends_by_two, extends_past_one, extends_past_two, bound_here, bound_more, bound_all)

-- The rules for a call that fails after it read the capacity of a line.
pub ruleset after_the_capacity = (extends_by_one, bound_here, bound_all)
