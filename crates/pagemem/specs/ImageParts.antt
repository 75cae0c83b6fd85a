-- The parts of an image. (This project's own.)
use Rattle.std.specs.Prelude.{ℕ, List}
use Rattle.pagemem.specs.Image.{image_at}

-- The bytes of page zero, and of the program that follows it.
pub record ImageParts : Type 0 where
  pub page_zero : List ℕ
  pub program : List ℕ

-- The byte of each cell.
abbrev pub image_with : ImageParts → ℕ → ℕ
image_with parts = image_at parts.page_zero parts.program
