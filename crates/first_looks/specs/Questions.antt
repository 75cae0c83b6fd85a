-- Questions of a run to its session. (This project's own.)
use Rattle.std.specs.Prelude.{◌==◌, ◌||◌, Bool, false, List, [], ◌∷◌}
use Rattle.hostfiles.specs.FileLooks.{is_same_ask}
use Rattle.first_looks.specs.declared.question.Question.{Question}
use Rattle.first_looks.specs.declared.question.Question.TheVariants.{Cell, Script, Host}

abbrev pub same_question : Question → Question → Bool
same_question (Cell a) (Cell b) = a == b
same_question (Script k) (Script j) = k == j
same_question (Host a) (Host b) = is_same_ask a b
same_question q x = false

abbrev pub is_in : Question → List Question → Bool
is_in q [] = false
is_in q (x ∷ xs) = same_question q x || is_in q xs
