-- The bytes of a control block, one after the other, and what is shown of it.
use Rattle.std.proofs.Common.{◌≡◌, ℕ, ◌+◌, ◌<◌, ◌≤◌, List, [], ◌∷◌, ◌++◌, length, map, take, set, sym, ◌∙◌, arith}
use Rattle.std.specs.List.{range_with_len}
use Rattle.std.proofs.lemmas.List.{take_all, take_more_set}
use Rattle.std.proofs.lemmas.List.FromFn.{map-range_with_len_more}
use Rattle.i8080.specs.Registers.{onward}

pub read_more : (f : ℕ → ℕ) (xs : List ℕ) (i j v : ℕ) → i < length xs → j ≡ i → v ≡ f i → take i xs ≡ map f (range_with_len 0 i) → take (i + 1) (set xs j v) ≡ map f (range_with_len 0 (i + 1))
read_more f xs i j v within at value before =
    let zero_on : 0 + i ≡ i = omega arith in
    rw at (take_more_set xs i v within ∙ (λ k. before k ++ value k ∷ []) ∙ sym (map-range_with_len_more f 0 i i zero_on))

pub read_all : (byte : ℕ → ℕ) (xs : List ℕ) (i n at to : ℕ) → i ≡ n → length xs ≤ i → at ≡ to
    → take i xs ≡ map (λ k. byte (onward at k)) (range_with_len 0 i) → xs ≡ map (λ k. byte (onward to k)) (range_with_len 0 n)
read_all byte xs i n at to all few same read = sym (take_all i xs few) ∙ read ∙ (λ j. map (λ k. byte (onward (same j) k)) (range_with_len 0 (all j)))
