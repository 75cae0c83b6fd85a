-- What contracts see of an image. (This project's own.)
use Rattle.std.specs.Prelude.{ℕ}
use Rattle.pagemem.specs.Image.{image_at}
use Rattle.pagemem.specs.declared.image.Image.{Image}

-- The byte of each cell.
abbrev pub cells_of : Image → ℕ → ℕ
cells_of image = image_at image.page_zero.now image.program.now
