-- Matching a key against a pattern, byte by byte.
use Rattle.std.proofs.Common.{◌≡◌, ℕ, zero, suc, ◌+◌, ◌<◌, ◌≤◌, true, false, List, [], ◌∷◌, refl, sym, ap, ◌∙◌, drop, length, arith}
use Rattle.std.specs.Prelude.{◌==◌, ◌||◌, ◌&&◌, slice_index}
use Rattle.directory.specs.Entries.{fits_name}

pub match_turn : (ps ks : List ℕ) (i : ℕ) → i < length ps → i < length ks
    → fits_name (drop i ps) (drop i ks) ≡ ((slice_index ps i == 63 || slice_index ps i == slice_index ks i) && fits_name (drop (i + 1) ps) (drop (i + 1) ks))
match_turn [] ks i h k = absurd (omega arith)
match_turn (p ∷ ps) [] i h k = absurd (omega arith)
match_turn (p ∷ ps) (b ∷ bs) zero h k = refl
match_turn (p ∷ ps) (b ∷ bs) (suc i) h k =
    let next : suc i + 1 ≡ suc (i + 1) = omega arith in
    rw next (match_turn ps bs i (omega arith) (omega arith))

pub match_on : (ps ks : List ℕ) (i : ℕ) → i < length ps → i < length ks → (slice_index ps i == 63 || slice_index ps i == slice_index ks i) ≡ true → fits_name (drop (i + 1) ps) (drop (i + 1) ks) ≡ fits_name (drop i ps) (drop i ks)
match_on ps ks i h k t = sym (match_turn ps ks i h k ∙ ap (λ b. b && fits_name (drop (i + 1) ps) (drop (i + 1) ks)) t)

pub match_off : (ps ks : List ℕ) (i : ℕ) → i < length ps → i < length ks → (slice_index ps i == 63 || slice_index ps i == slice_index ks i) ≡ false → fits_name (drop i ps) (drop i ks) ≡ false
match_off ps ks i h k t = match_turn ps ks i h k ∙ ap (λ b. b && fits_name (drop (i + 1) ps) (drop (i + 1) ks)) t

pub match_end : (ps ks : List ℕ) (i : ℕ) → length ps ≤ i → fits_name (drop i ps) ks ≡ true
match_end [] ks zero h = refl
match_end [] ks (suc i) h = refl
match_end (p ∷ ps) ks zero h = absurd (omega arith)
match_end (p ∷ ps) ks (suc i) h = match_end ps ks i (omega arith)

-- The rules of a match, byte by byte.
pub ruleset byte_by_byte = (match_on, match_off, match_end)
