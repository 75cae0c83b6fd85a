-- What a call asks of the state: of memory and the script, and of the files. (This project's own.)
use Rattle.std.specs.Prelude.{List, [], ◌∷◌}
use Rattle.interaction_trees.specs.Tree.{Tree, Return, Query}
use Rattle.i8080.specs.Reading.{Reading, Done}
use Rattle.i8080.specs.Reading as reading
use Rattle.console_calls.specs.StateQuestions.{StateQuestion, Byte, StateAnswer, StateTree}
use Rattle.file_calls.specs.FileQuestions.{FileQuestion, FileAnswer, FileTree}

pub data SystemQuestion : Type 0 where
  OfState : StateQuestion → SystemQuestion
  OfFiles : FileQuestion → SystemQuestion

abbrev pub SystemAnswer : SystemQuestion → Type 0
SystemAnswer (OfState q) = StateAnswer q
SystemAnswer (OfFiles q) = FileAnswer q

abbrev pub SystemAnswers : Type 0
SystemAnswers = (q : SystemQuestion) → SystemAnswer q

abbrev pub SystemTree : Type 0 → Type 0
SystemTree E = Tree SystemQuestion SystemAnswer E

-- The questions to the state, and the questions to the files.
abbrev pub state_questions : List SystemQuestion → List StateQuestion
state_questions [] = []
state_questions (OfState q ∷ rest) = q ∷ state_questions rest
state_questions (OfFiles q ∷ rest) = state_questions rest

abbrev pub file_questions : List SystemQuestion → List FileQuestion
file_questions [] = []
file_questions (OfState q ∷ rest) = file_questions rest
file_questions (OfFiles q ∷ rest) = q ∷ file_questions rest

-- Reads of memory, and what follows them.
abbrev pub bind_reading : {E F : Type 0} → Reading E → (E → SystemTree F) → SystemTree F
bind_reading (Done e) k = k e
bind_reading (reading.Cell a t) k = Query (OfState (Byte a)) (λ v. bind_reading (t v) k)

-- Questions to memory and the script, and what follows them.
abbrev pub bind_state : {E F : Type 0} → StateTree E → (E → SystemTree F) → SystemTree F
bind_state (Return e) k = k e
bind_state (Query q t) k = Query (OfState q) (λ a. bind_state (t a) k)

-- Questions to the files, and what follows them.
abbrev pub bind_files : {E F : Type 0} → FileTree E → (E → SystemTree F) → SystemTree F
bind_files (Return e) k = k e
bind_files (Query q t) k = Query (OfFiles q) (λ a. bind_files (t a) k)
