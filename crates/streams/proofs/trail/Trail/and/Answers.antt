use Rattle.std.proofs.Common.{◌≡◌, ◌∷◌, ◌++◌, List, ℕ, length}
use Rattle.std.proofs.Math.Seq.{drop-append_seam, take-append_seam}
use Rattle.streams.specs.Trails.{cut}
use Rattle.streams.proofs.trail.Trail.and.Goals as goal

-- A path before others.
first_path : (path rest lengths : List ℕ) → cut (length path ∷ lengths) (path ++ rest) ≡ path ∷ cut lengths rest
first_path path rest lengths = λ i. take-append_seam path rest i ∷ cut lengths (drop-append_seam path rest i)

pub returns : goal.returns
returns c = rw (c.of.ensures, c.of-2.ensures) (first_path c.args.path.now c.args.self.now.bytes.numbers c.args.self.now.lengths.numbers)
