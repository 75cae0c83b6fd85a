-- A text cut at a byte: its lines, which end with 0AH, and the words of a line, which one blank separates. (This project's own.)
use Rattle.std.specs.Prelude.{ℕ, ◌==◌, if◌then◌else◌, List, [], ◌∷◌}
use Rattle.std.proofs.Common.{zero, suc}

-- The bytes before the first one that equals cut.
abbrev pub first_piece : ℕ → List ℕ → List ℕ
first_piece cut [] = []
first_piece cut (b ∷ bs) = if b == cut then [] else b ∷ first_piece cut bs

-- The bytes after that one, cut in the same way.
abbrev pub other_pieces : ℕ → List ℕ → List (List ℕ)
other_pieces cut [] = []
other_pieces cut (b ∷ bs) = if b == cut then first_piece cut bs ∷ other_pieces cut bs else other_pieces cut bs

-- The bytes before, between and after those equal to cut.
abbrev pub pieces : ℕ → List ℕ → List (List ℕ)
pieces cut bs = first_piece cut bs ∷ other_pieces cut bs

-- A list of this member alone, or of none if the member is empty.
abbrev pub unless_empty : List ℕ → List (List ℕ)
unless_empty [] = []
unless_empty (b ∷ l) = (b ∷ l) ∷ []

-- The list without its last member if that is empty.
abbrev pub without_empty_last : List (List ℕ) → List (List ℕ)
without_empty_last [] = []
without_empty_last (l ∷ []) = unless_empty l
without_empty_last (l ∷ m ∷ ls) = l ∷ without_empty_last (m ∷ ls)

-- The lines of a text. Each ends with 0AH; a last one without 0AH counts if it is not empty.
abbrev pub lines_of : List ℕ → List (List ℕ)
lines_of text = without_empty_last (pieces 10 text)

-- The bytes after the first j lines.
abbrev pub past_lines : ℕ → List ℕ → List ℕ
past_lines zero bs = bs
past_lines (suc j) [] = []
past_lines (suc j) (b ∷ bs) = if b == 10 then past_lines j bs else past_lines (suc j) bs

-- The words of a line: the bytes between its blanks. Two blanks in a row have an empty word between them.
abbrev pub words_of : List ℕ → List (List ℕ)
words_of line = pieces 32 line
