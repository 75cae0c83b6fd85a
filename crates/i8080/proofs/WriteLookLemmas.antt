-- The looks of code that reads and then fails.
use Rattle.std.proofs.Common.{◌≡◌, ℕ, List, [], ◌∷◌, length, arith}
use Rattle.std.proofs.lemmas.List.{take_all}
use Rattle.i8080.specs.Memory.{Own, Looks, Extends, look, look_all}
use Rattle.i8080.proofs.LookLemmas.{extends_past}

pub extends_itself : (looks : Looks) → Extends looks looks
extends_itself looks = take_all (length looks) looks (omega arith)

-- The looks after some reads extend the looks before them.
pub extends_by : (own : Own) (xs : List ℕ) (looks new : Looks) → new ≡ look_all own xs looks → Extends looks new
extends_by own xs looks new e = extends_past own xs looks new new e (extends_itself new)

pub extends_by_one : (own : Own) (looks new : Looks) (a : ℕ) → new ≡ look own looks a → Extends looks new
extends_by_one own looks new a e = extends_by own (a ∷ []) looks new e

pub extends_by_two : (own : Own) (looks new : Looks) (a b : ℕ) → new ≡ look own (look own looks a) b → Extends looks new
extends_by_two own looks new a b e = extends_by own (a ∷ b ∷ []) looks new e
