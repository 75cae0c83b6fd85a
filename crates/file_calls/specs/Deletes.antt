-- The journal after a change of files, and the effect of a function that deletes files. (This project's own.)
use Rattle.std.specs.Prelude.{◌≡◌, ◌⊎◌, Bool, true, List, [], ◌∷◌, IfOk, OnOk, OnErr}
use Rattle.std.specs.declared.result.Result.{Result}
use Rattle.std.specs.declared.alloc.AllocError.{AllocError}
use Rattle.interaction_trees.specs.Tree.{result_of, questions_of}
use Rattle.hostfiles.specs.Hosts.{Key}
use Rattle.hostfiles.specs.Files.{OwnFiles, after_delete, after_make, after_rename, after_write}
use Rattle.hostfiles.specs.FileLooks.{HasNewAsk, KeepsAsks}
use Rattle.file_calls.specs.FileQuestions.{FileTree}
use Rattle.file_calls.specs.TableView.{TableView, file_answers, look_for_all}
use Rattle.file_calls.specs.Changes.{is_some_named, FileChange, Unchanged, Made, Deleted, Renamed, Stored}

-- The journal after the files of these keys were deleted, one after another.
abbrev pub own_without : OwnFiles → List Key → OwnFiles
own_without own [] = own
own_without own (key ∷ keys) = own_without (after_delete own key) keys

-- The journal after a change.
abbrev pub own_after_change : FileChange → OwnFiles → OwnFiles
own_after_change Unchanged own = own
own_after_change (Made key) own = after_make own key
own_after_change (Deleted keys) own = own_without own keys
own_after_change (Renamed old new) own = after_rename own old new
own_after_change (Stored w r) own = after_write w.gap w.length own w.key w.place r

-- The function deletes the files of the keys that a tree of questions ends with, and returns whether there are any.
pub record Deletes (t : FileTree (List Key)) (v : TableView) (result : Result Bool AllocError) (v' : TableView) : Type 0 where
  pub found : IfOk result (λ some. some ≡ is_some_named (result_of (file_answers v.host v.own) t))
  pub own : OnOk result (v'.own ≡ own_without v.own (result_of (file_answers v.host v.own) t))
  pub looks : OnOk result (v'.looks ≡ look_for_all v.own (questions_of (file_answers v.host v.own) t) v.looks)
  pub err_own : OnErr result (v'.own ≡ v.own)
  pub extends : KeepsAsks v.looks v'.looks
  -- After an error there are only the earlier looks and some looks of the whole tree.
  pub bound : OnErr result (KeepsAsks v'.looks (look_for_all v.own (questions_of (file_answers v.host v.own) t) v.looks))
  -- An allocation fails only for a question that was not asked before, or to delete a file.
  pub refused : OnErr result (HasNewAsk v.looks (look_for_all v.own (questions_of (file_answers v.host v.own) t) v.looks)
      ⊎ (is_some_named (result_of (file_answers v.host v.own) t) ≡ true))
  pub host : v'.host ≡ v.host
  pub lender : v'.lender ≡ v.lender
