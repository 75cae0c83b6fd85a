use Rattle.std.proofs.Common.{◌≡◌, ◌+◌, ◌≤◌, ◌∙◌, ℕ, zero, suc, List, length, get_or, take, replicate, refl, sym, arith, rules}
use Rattle.pagemem.specs.Image.{image_at}
use Rattle.pagemem.proofs.image.Image.cells.Goals as goal

zero_read : (n i : ℕ) → get_or {A = ℕ} (replicate n 0) i 0 ≡ 0
zero_read zero i = refl
zero_read (suc n) zero = refl
zero_read (suc n) (suc i) = zero_read n i

-- The first elements of a list of zeros are zeros.
zeros_read : (n count i : ℕ) → get_or {A = ℕ} (take count (replicate n 0)) i 0 ≡ 0
zeros_read n zero i = refl
zeros_read zero (suc count) i = refl
zeros_read (suc n) (suc count) zero = refl
zeros_read (suc n) (suc count) (suc i) = zeros_read n count i

-- Cells past the program.
image_past : (page_zero program : List ℕ) (a : ℕ) → 256 + length program ≤ a → image_at page_zero program a ≡ 0
image_past page_zero program a h = search rules

pub returns-then-from-program-clause-bytes : goal.returns-then-from-program-clause-bytes
returns-then-from-program-clause-bytes c = λ i h. zeros_read 256 c.args.count i ∙ sym (image_past c.args.self.page_zero.now c.args.self.program.now (c.args.at + i) (omega (arith, h)))
