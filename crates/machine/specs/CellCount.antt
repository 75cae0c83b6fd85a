-- The number of cells. [8080 manual 1975, chapter 4, memory]
use Rattle.std.specs.Prelude.{◌≡◌, refl, ℕ}

-- Not unfolded by default, so that no proof counts up to it.
pub cell_count : ℕ
cell_count = 65536

pub cell_count-is : cell_count ≡ 65536
unfolding cell_count
cell_count-is = refl
