-- What a step asks of memory and of the script. What it asks of files is defined in the crate `file_calls`. (This project's
-- own.)
use Rattle.std.specs.Prelude.{ℕ, Option, List, [], ◌∷◌, slice_get}
use Rattle.i8080.specs.Reading.{Reading, Done}
use Rattle.i8080.specs.Reading as reading
use Rattle.interaction_trees.specs.Tree.{Tree, Return, Query}

-- The byte of a cell; the script byte at an offset, or that there is none.
pub data StateQuestion : Type 0 where
  Byte : ℕ → StateQuestion
  Input : ℕ → StateQuestion

abbrev pub StateAnswer : StateQuestion → Type 0
StateAnswer (Byte a) = ℕ
StateAnswer (Input k) = Option ℕ

abbrev pub StateAnswers : Type 0
StateAnswers = (q : StateQuestion) → StateAnswer q

abbrev pub StateTree : Type 0 → Type 0
StateTree E = Tree StateQuestion StateAnswer E

-- Reads of memory as questions, and what follows them.
abbrev pub bind_reading : {E F : Type 0} → Reading E → (E → StateTree F) → StateTree F
bind_reading (Done e) k = k e
bind_reading (reading.Cell a t) k = Query (Byte a) (λ v. bind_reading (t v) k)

-- One tree, and what follows its end.
abbrev pub bind_tree : {E F : Type 0} → StateTree E → (E → StateTree F) → StateTree F
bind_tree (Return e) k = k e
bind_tree (Query q t) k = Query q (λ a. bind_tree (t a) k)

-- The addresses among the questions.
abbrev pub addresses : List StateQuestion → List ℕ
addresses [] = []
addresses (Byte a ∷ rest) = a ∷ addresses rest
addresses (Input k ∷ rest) = addresses rest

-- The script offsets among the questions.
abbrev pub script_offsets : List StateQuestion → List ℕ
script_offsets [] = []
script_offsets (Byte a ∷ rest) = script_offsets rest
script_offsets (Input k ∷ rest) = k ∷ script_offsets rest

-- The answers of a memory and a script.
abbrev pub answers : (ℕ → ℕ) → List ℕ → StateAnswers
answers byte script (Byte a) = byte a
answers byte script (Input k) = slice_get script k
