-- Names that are counted.
use Rattle.std.proofs.Common.{◌≡◌, Bool, true, false, cond, List, [], ◌∷◌, filter, length, map, arith, refl}

one_more : {A B : Type 0} (b : Bool) (y : B) (x : A) (ys : List B) (xs : List A) → length ys ≡ length xs → length (cond b (y ∷ ys) ys) ≡ length (cond b (x ∷ xs) xs)
one_more true y x ys xs e = omega (arith, e)
one_more false y x ys xs e = e

-- The items that pass by what is made of them.
pub filter-map : {A B : Type 0} (p : B → Bool) (f : A → B) (xs : List A) → length (filter p (map f xs)) ≡ length (filter (λ x. p (f x)) xs)
filter-map p f [] = refl
filter-map p f (x ∷ xs) = one_more (p (f x)) (f x) x _ _ (filter-map p f xs)
