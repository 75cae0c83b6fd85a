-- The effect of a function that asks about the files and changes none. (This project's own.)
use Rattle.std.specs.declared.result.Result.{Result}
use Rattle.std.specs.declared.alloc.AllocError.{AllocError}
use Rattle.std.specs.Prelude.{Bool, true, false}
use Rattle.interaction_trees.specs.Tree.{Return, Query, result_of, questions_of}
use Rattle.hostfiles.specs.Hosts.{Host}
use Rattle.hostfiles.specs.Asking.{Inquires}
use Rattle.hostfiles.specs.declared.changes.Changes.{Changes}
use Rattle.file_calls.specs.FileQuestions.{FileTree}
use Rattle.file_calls.specs.TableView.{file_answers, look_for_all}

-- The function returns the result of a tree of questions over the current files, and marks the questions on the way to it. An
-- allocation fails only if one of them is new to the host files.
abbrev pub Asks : {E : Type 0} → FileTree E → Host → Changes → Result E AllocError → Changes → Type 0
Asks t host old result new =
    Inquires result (λ own. result_of (file_answers host own) t) (λ own. look_for_all own (questions_of (file_answers host own) t)) old new

-- Whether a tree asks anything; a tree that asks nothing never runs out of memory.
abbrev pub is_asking : {E : Type 0} → FileTree E → Bool
is_asking (Return e) = false
is_asking (Query q k) = true
