-- Lines of text. (This project's own.)
use Rattle.std.specs.Prelude.{ℕ, List, [], ◌∷◌, ◌++◌}

-- A line with its end.
abbrev pub line : List ℕ → List ℕ
line text = text ++ 10 ∷ []
