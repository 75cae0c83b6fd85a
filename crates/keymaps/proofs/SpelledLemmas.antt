-- Lists of bytes compare as the numbers that they represent.
use Rattle.std.proofs.Common.{◌≡◌, ℕ, ◌+◌, ◌*◌, ◌<◌, suc, nat_eq, List, [], ◌∷◌, length, refl, sym, ap, ◌∙◌, arith, slice_index}
use Rattle.std.specs.declared.cmp.Ordering.{Ordering}
use Rattle.std.specs.declared.cmp.Ordering.TheVariants.{Less, Equal, Greater}
use Rattle.std.specs.Ordering.{nat_cmp, ordering_then, is_eq, MatchOrdering}
use Rattle.std.specs.Cmp.{ranks, nat_cmp_is, unsigned_ties}
use Rattle.std.specs.Cmp.Lexicographic.{slice_cmp, pointwise, texts_ties}
use Rattle.std.specs.Slice.Scan.{big_endian}

then_assoc : (a b c : Ordering) → ordering_then (ordering_then a b) c ≡ ordering_then a (ordering_then b c)
then_assoc Less b c = refl
then_assoc Equal b c = refl
then_assoc Greater b c = refl

-- One more byte.
next_cmp : (a b u v : ℕ) → u < 256 → v < 256 → nat_cmp (a * 256 + u) (b * 256 + v) ≡ ordering_then (nat_cmp a b) (nat_cmp u v)
next_cmp a b u v p q = sym (nat_cmp_is _ _ _ (by (nat_cmp a b) (nat_cmp u v) (ranks a b) (ranks u v)))
  where
    by : (r s : Ordering) → MatchOrdering r (a < b) (a ≡ b) (b < a) → MatchOrdering s (u < v) (u ≡ v) (v < u)
        → MatchOrdering (ordering_then r s) (a * 256 + u < b * 256 + v) (a * 256 + u ≡ b * 256 + v) (b * 256 + v < a * 256 + u)
    by Less s g h = let l : a < b = g in omega arith
    by Equal Less g h = let e : a ≡ b = g in let l : u < v = h in omega arith
    by Equal Equal g h = let e : a ≡ b = g in let f : u ≡ v = h in omega arith
    by Equal Greater g h = let e : a ≡ b = g in let l : v < u = h in omega arith
    by Greater s g h = let l : b < a = g in omega arith

next_then : (a b u v : ℕ) (rest : Ordering) → u < 256 → v < 256
    → ordering_then (nat_cmp (a * 256 + u) (b * 256 + v)) rest ≡ ordering_then (nat_cmp a b) (ordering_then (nat_cmp u v) rest)
next_then a b u v rest p q = ap (λ r. ordering_then r rest) (next_cmp a b u v p q) ∙ then_assoc (nat_cmp a b) (nat_cmp u v) rest

then_equal : (r : Ordering) → r ≡ ordering_then r Equal
then_equal Less = refl
then_equal Equal = refl
then_equal Greater = refl

abbrev AreBytes : List ℕ → Type 0
AreBytes us = (i : ℕ) → slice_index us i < 256

-- If two numbers are equal, the bytes after them decide.
after_cmp : (a b : ℕ) (us vs : List ℕ) → length us ≡ length vs → AreBytes us → AreBytes vs
    → nat_cmp (big_endian a us) (big_endian b vs) ≡ ordering_then (nat_cmp a b) (slice_cmp nat_cmp us vs)
after_cmp a b [] [] same p q = then_equal (nat_cmp a b)
after_cmp a b [] (v ∷ vs) same p q = absurd (omega arith)
after_cmp a b (u ∷ us) [] same p q = absurd (omega arith)
after_cmp a b (u ∷ us) (v ∷ vs) same p q =
    after_cmp (a * 256 + u) (b * 256 + v) us vs (omega arith) (λ i. p (suc i)) (λ i. q (suc i))
    ∙ next_then a b u v (slice_cmp nat_cmp us vs) (p 0) (q 0)

module _ (us vs : List ℕ) (same : length us ≡ length vs) (p : AreBytes us) (q : AreBytes vs) where
  -- Two lists of the same length compare as the numbers that they represent.
  pub number_cmp : nat_cmp (big_endian 0 us) (big_endian 0 vs) ≡ slice_cmp nat_cmp us vs
  number_cmp = after_cmp 0 0 us vs same p q

  pub number_eq : nat_eq (big_endian 0 us) (big_endian 0 vs) ≡ pointwise nat_eq us vs
  number_eq = unsigned_ties (big_endian 0 us) (big_endian 0 vs) ∙ ap is_eq number_cmp ∙ sym (texts_ties us vs)
