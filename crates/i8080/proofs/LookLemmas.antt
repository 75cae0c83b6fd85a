-- Looks at addresses.
use Rattle.std.proofs.Common.{◌≡◌, ℕ, Bool, true, false, cond, ◌||◌, List, [], ◌∷◌, ◌++◌, refl, sym, ◌∙◌, ap, eqb, is_some, append_assoc, length, drop, take-append-drop}
use Rattle.std.proofs.Math.Seq.{take-append_seam}
use Rattle.std.proofs.lemmas.List.{append-nil}
use Rattle.std.proofs.Math.Bool.{or_assoc}
use Rattle.i8080.specs.Memory.{Own, Looks, Extends, is_among, look, look_all}

-- An address is in the concatenation of two lists if and only if it is in one of them.
pub is_among-append : (q : ℕ) (xs ys : List ℕ) → is_among q (xs ++ ys) ≡ (is_among q xs || is_among q ys)
is_among-append q [] ys = refl
is_among-append q (x ∷ xs) ys = ap (λ b. eqb q x || b) (is_among-append q xs ys) ∙ sym (or_assoc (eqb q x) _ _)

abbrev Longer : List ℕ → List ℕ → Type 0
Longer old new = (more : List ℕ) × (new ≡ old ++ more)

longer : (a b : List ℕ) → Extends a b → Longer a b
longer a b e = (drop (length a) b, sym (take-append-drop (length a) b) ∙ ap (λ xs. xs ++ drop (length a) b) e)

begun : (a b : List ℕ) → Longer a b → Extends a b
begun a b p = rw p.1 (take-append_seam a p.0)

-- A look extends the looks.
look_longer : (own : Own) (looks : Looks) (a : ℕ) → Longer looks (look own looks a)
unfolding look
look_longer own looks a = by_case (is_some (own a) || is_among a looks)
  where
    by_case : (b : Bool) → Longer looks (cond b looks (looks ++ a ∷ []))
    by_case true = ([], sym (append-nil looks))
    by_case false = (a ∷ [], refl)

longer_twice : (a b c : List ℕ) → Longer a b → Longer b c → Longer a c
longer_twice a b c p q = (p.0 ++ q.0, q.1 ∙ ap (λ xs. xs ++ q.0) p.1 ∙ append_assoc a p.0 q.0)

looks_longer : (own : Own) (xs : List ℕ) (looks : Looks) → Longer looks (look_all own xs looks)
looks_longer own [] looks = ([], sym (append-nil looks))
looks_longer own (x ∷ xs) looks =
    longer_twice looks (look own looks x) (look_all own xs (look own looks x)) (look_longer own looks x) (looks_longer own xs (look own looks x))

-- A list that extends the looks after some reads also extends the looks before them.
pub extends_past : (own : Own) (xs : List ℕ) (looks now new : Looks) → now ≡ look_all own xs looks → Extends now new → Extends looks new
extends_past own xs looks now new e h = begun looks new (longer_twice looks now new (rw e (looks_longer own xs looks)) (longer now new h))

pub extends_past_one : (own : Own) (looks now new : Looks) (a : ℕ) → now ≡ look own looks a → Extends now new → Extends looks new
extends_past_one own looks now new a e h = extends_past own (a ∷ []) looks now new e h

pub extends_past_two : (own : Own) (looks now new : Looks) (a b : ℕ) → now ≡ look own (look own looks a) b → Extends now new → Extends looks new
extends_past_two own looks now new a b e h = extends_past own (a ∷ b ∷ []) looks now new e h

pub extends_twice : (a b c : Looks) → Extends a b → Extends b c → Extends a c
extends_twice a b c h k = begun a c (longer_twice a b c (longer a b h) (longer b c k))
