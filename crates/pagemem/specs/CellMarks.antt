-- Marks of cells, and the order in which they were set. (This project's own.)
use Rattle.std.specs.Prelude.{◌≡◌, ℕ, ◌<◌, Bool, false, List, length, take, get_or, slice_index, count_by}
use Rattle.i8080.specs.Memory.{is_among}

-- The first `count` entries of the order are the marked cells, each once.
pub record ListsMarks (marks : List Bool) (order : List ℕ) (count : ℕ) : Type 0 where
  pub all_marks : length marks ≡ 65536
  pub all_order : length order ≡ 65536
  pub counted : count ≡ count_by (λ b. b) marks
  pub listed : (q : ℕ) → get_or marks q false ≡ is_among q (take count order)
  pub apart : (i : ℕ) → i < count → is_among (slice_index order i) (take i order) ≡ false
