-- The set of the numbers whose marks are set. (This project's own.)
use Rattle.std.specs.Prelude.{ℕ, suc, Bool, true, false, List, [], ◌∷◌}
use Rattle.std.specs.Ordering.{nat_cmp}
use Rattle.std.specs.FinMap.{FinMap, from_entries}

-- These numbers in order, if the first mark is at number n.
abbrev pub marked_numbers_from : ℕ → List Bool → List (ℕ × Unit {0})
marked_numbers_from n [] = []
marked_numbers_from n (true ∷ marks) = (n, tt) ∷ marked_numbers_from (suc n) marks
marked_numbers_from n (false ∷ marks) = marked_numbers_from (suc n) marks

unfoldable pub marked_numbers : List Bool → FinMap nat_cmp (Unit {0})
marked_numbers marks = from_entries (marked_numbers_from 0 marks)
