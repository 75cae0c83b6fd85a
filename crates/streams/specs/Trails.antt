-- Paths that only contracts see. (This project's own.)
use Rattle.std.specs.Prelude.{ℕ, List, [], ◌∷◌, take, drop}
use Rattle.streams.specs.declared.trail.Trail.{Trail}

-- The parts of a text, by their lengths.
abbrev pub cut : List ℕ → List ℕ → List (List ℕ)
cut [] text = []
cut (n ∷ ns) text = take n text ∷ cut ns (drop n text)

-- The paths of a trail, the last one first.
abbrev pub paths : Trail → List (List ℕ)
paths t = cut t.lengths.numbers t.bytes.numbers
