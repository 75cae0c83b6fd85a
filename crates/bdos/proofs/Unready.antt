-- Cells that were not ready, among the ones that a call writes.
use Rattle.std.proofs.Common.{◌≡◌, ℕ, suc, zero, ◌<◌, ◌==◌, ◌||◌, Bool, true, false, List, [], ◌∷◌, ◌++◌, length, map, refl, subst, arith, eq-eqb}
use Rattle.i8080.specs.Memory.{is_among}
use Rattle.i8080.specs.Performs.{WritesUnready}
use Rattle.i8080.specs.Registers.{onward}
use Rattle.i8080.specs.End.{cells_from}
use Rattle.i8080.proofs.ReadyLemmas.{unready_before, unready_earlier, keeps_same, keeps_on}

abbrev written_addresses : List (ℕ × ℕ) → List ℕ
written_addresses cells = map (λ c. c.0) cells

or_true : (b : Bool) → (b || true) ≡ true
or_true true = refl
or_true false = refl

among_head : (a : ℕ) (rest : List ℕ) → is_among a (a ∷ rest) ≡ true
among_head a rest = rw (eq-eqb a a refl) refl

among_tail : (a x : ℕ) (rest : List ℕ) → is_among a rest ≡ true → is_among a (x ∷ rest) ≡ true
among_tail a x rest h = rw h (or_true (a == x))

among_left : (a : ℕ) (xs ys : List (ℕ × ℕ)) → is_among a (written_addresses xs) ≡ true → is_among a (written_addresses (xs ++ ys)) ≡ true
among_left a [] ys h = absurd (cc)
among_left a (x ∷ xs) ys h = by_case (among_left a xs ys) (a == x.0) h where
  by_case : (is_among a (written_addresses xs) ≡ true → is_among a (written_addresses (xs ++ ys)) ≡ true) → (b : Bool)
      → (b || is_among a (written_addresses xs)) ≡ true → (b || is_among a (written_addresses (xs ++ ys))) ≡ true
  by_case rest true e = refl
  by_case rest false e = rest e

among_right : (a : ℕ) (xs ys : List (ℕ × ℕ)) → is_among a (written_addresses ys) ≡ true → is_among a (written_addresses (xs ++ ys)) ≡ true
among_right a [] ys h = h
among_right a (x ∷ xs) ys h = among_tail a x.0 (written_addresses (xs ++ ys)) (among_right a xs ys h)

among_cells : (at i : ℕ) (bytes : List ℕ) → at < 65536 → i < length bytes → is_among (onward at i) (written_addresses (cells_from at bytes)) ≡ true
among_cells at i [] low h = absurd (omega (arith, h))
among_cells at zero (b ∷ bs) low h =
    subst (λ (a : ℕ). is_among a (at ∷ written_addresses (cells_from (onward at 1) bs)) ≡ true) (let same : at ≡ onward at 0 = omega (arith, low) in same)
    (among_head at (written_addresses (cells_from (onward at 1) bs)))
among_cells at (suc i) (b ∷ bs) low h =
    among_tail (onward at (suc i)) at (written_addresses (cells_from (onward at 1) bs))
    (subst (λ (a : ℕ). is_among a (written_addresses (cells_from (onward at 1) bs)) ≡ true) (let same : onward (onward at 1) i ≡ onward at (suc i) = omega arith in same)
    (among_cells (onward at 1) i bs (omega arith) (omega (arith, h))))

-- One of the cells from an address on.
pub unready_cells : (ready : ℕ → Bool) (at n : ℕ) (bytes : List ℕ) → at < 65536 → n ≡ length bytes → ((i : ℕ) × (i < n) × (ready (onward at i) ≡ false)) → WritesUnready ready (cells_from at bytes)
unready_cells ready at n bytes low same h = record { cell = onward at h.0; written = among_cells at h.0 bytes low (omega (arith, same, h.1)); unready = h.2 }

pub unready_left : (ready : ℕ → Bool) (xs ys : List (ℕ × ℕ)) → WritesUnready ready xs → WritesUnready ready (xs ++ ys)
unready_left ready xs ys h = record { cell = h.cell; written = among_left h.cell xs ys h.written; unready = h.unready }

pub unready_right : (ready : ℕ → Bool) (xs ys : List (ℕ × ℕ)) → WritesUnready ready ys → WritesUnready ready (xs ++ ys)
unready_right ready xs ys h = record { cell = h.cell; written = among_right h.cell xs ys h.written; unready = h.unready }

-- The rules for bytes that are written before a record number.
pub ruleset put_both = (unready_cells, unready_left, unready_right, unready_before, unready_earlier, keeps_same, keeps_on)
