-- The pieces of a message.
use Rattle.std.proofs.Common.{◌≡◌, ◌++◌, ℕ, List, append_assoc, refl}

-- Pieces that are joined from the last one on, or from the first one on.
pub five_regrouped : (a b c d e : List ℕ) → a ++ (b ++ (c ++ (d ++ e))) ≡ a ++ b ++ c ++ d ++ e
five_regrouped a b c d e = simp append_assoc refl
