-- The looks of the whole instruction extend the looks up to a failure.
use Rattle.std.proofs.Common.{◌≡◌, ℕ, List, refl, sym, subst}
use Rattle.i8080.specs.Memory.{Own, Looks, Extends, look, look_all}
use Rattle.i8080.proofs.LookLemmas.{extends_twice}
use Rattle.i8080.proofs.WriteLookLemmas.{extends_itself, extends_by, extends_by_one}

pub bound_here : (new mid : Looks) → new ≡ mid → Extends new mid
bound_here new mid e = subst (λ (x : Looks). Extends x mid) (sym e) (extends_itself mid)

pub bound_more : (own : Own) (new mid : Looks) (a : ℕ) → Extends new mid → Extends new (look own mid a)
bound_more own new mid a h = extends_twice new mid (look own mid a) h (extends_by_one own mid (look own mid a) a refl)

pub bound_all : (own : Own) (xs : List ℕ) (new mid : Looks) → Extends new mid → Extends new (look_all own xs mid)
bound_all own xs new mid h = extends_twice new mid (look_all own xs mid) h (extends_by own xs mid (look_all own xs mid) refl)
