-- Which cells were ready earlier.
use Rattle.std.proofs.Common.{◌≡◌, ℕ, ◌==◌, ◌||◌, Bool, true, false, refl, sym, ◌∙◌, List, ◌∷◌, map, IsTrue, eq-eqb}
use Rattle.i8080.specs.Memory.{is_among}
use Rattle.i8080.specs.Performs.{KeepsReady, WritesUnready}

-- A cell that is not ready was not ready before.
pub unready_before : (old new : ℕ → Bool) (a : ℕ) → KeepsReady old new → new a ≡ false → old a ≡ false
unready_before old new a kept h = by_case (old a) (kept.kept a) where
  by_case : (b : Bool) → (IsTrue b → IsTrue (new a)) → b ≡ false
  by_case true up = let no : IsTrue (new a) = up refl in let e : true ≡ false = sym no ∙ h in cc
  by_case false up = refl

pub unready_earlier : (old new : ℕ → Bool) (writes : List (ℕ × ℕ)) → KeepsReady old new → WritesUnready new writes → WritesUnready old writes
unready_earlier old new writes kept h = record { cell = h.cell; written = h.written; unready = unready_before old new h.cell kept h.unready }

pub keeps_same : (ready : ℕ → Bool) → KeepsReady ready ready
keeps_same ready = record { kept = λ q h. h }

pub keeps_on : (old mid new : ℕ → Bool) → KeepsReady old mid → KeepsReady mid new → KeepsReady old new
keeps_on old mid new first second = record { kept = λ q h. second.kept q (first.kept q h) }

among_first : (a : ℕ) (rest : List ℕ) → is_among a (a ∷ rest) ≡ true
among_first a rest = rw (eq-eqb a a refl) refl

among_second : (a b : ℕ) (rest : List ℕ) → is_among b (a ∷ b ∷ rest) ≡ true
among_second a b rest = by_case (b == a) where
  by_case : (c : Bool) → (c || is_among b (b ∷ rest)) ≡ true
  by_case true = refl
  by_case false = among_first b rest

-- The first of the cells is not ready.
pub first_unready : (ready : ℕ → Bool) (a x : ℕ) (rest : List (ℕ × ℕ)) → ready a ≡ false → WritesUnready ready ((a, x) ∷ rest)
first_unready ready a x rest h = record { cell = a; written = among_first a (map (λ w. w.0) rest); unready = h }

-- The second of them is not.
pub second_unready : (ready : ℕ → Bool) (a x b y : ℕ) (rest : List (ℕ × ℕ)) → ready b ≡ false → WritesUnready ready ((a, x) ∷ (b, y) ∷ rest)
second_unready ready a x b y rest h = record { cell = b; written = among_second a b (map (λ w. w.0) rest); unready = h }

-- The rules for an instruction that reads and then writes.
pub ruleset readiness = (unready_before, unready_earlier, keeps_same, keeps_on)
