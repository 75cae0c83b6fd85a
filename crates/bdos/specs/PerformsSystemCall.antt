-- The effect of a function that executes a call, files included. (This project's own.)
use Rattle.std.specs.Prelude.{◌≡◌, ℕ, List, OnOk, OnErr}
use Rattle.std.specs.declared.result.Result.{Result}
use Rattle.std.specs.declared.alloc.AllocError.{AllocError}
use Rattle.interaction_trees.specs.Tree.{result_of, questions_of}
use Rattle.i8080.specs.declared.registers.Regs.{Regs}
use Rattle.i8080.specs.Memory.{bytes}
use Rattle.console_calls.specs.declared.desk.Spot.{Spot}
use Rattle.console_calls.specs.declared.served.Served.{Served}
use Rattle.console_calls.specs.StateQuestions.{addresses, script_offsets, answers}
use Rattle.console_calls.specs.PerformsCall.{Scene, CallPath, PerformsCall}
use Rattle.hostfiles.specs.FileLooks.{KeepsAsks}
use Rattle.hostfiles.specs.Hosts.{Host}
use Rattle.hostfiles.specs.Files.{OwnFiles}
use Rattle.file_calls.specs.FileQuestions.{FileQuestion}
use Rattle.file_calls.specs.TableView.{TableView, look_for_all, file_answers}
use Rattle.file_calls.specs.Changes.{FileChange}
use Rattle.file_calls.specs.Deletes.{own_after_change}
use Rattle.bdos.specs.SystemQuestions.{SystemTree, OfState, OfFiles, SystemAnswers}
pub use Rattle.bdos.specs.SystemQuestions.{state_questions, file_questions}
use Rattle.bdos.specs.FileCalls.{SystemEnd}

-- The answers of a memory, a script and files.
abbrev pub system_answers : (ℕ → ℕ) → List ℕ → Host → OwnFiles → SystemAnswers
system_answers byte script host own (OfState q) = answers byte script q
system_answers byte script host own (OfFiles q) = file_answers host own q

-- The end of a tree of questions, and the cells, the script offsets and the questions to the files on the way to it.
pub record SystemPath (E : Type 0) : Type 0 where
  pub end : E
  pub cells : List ℕ
  pub offsets : List ℕ
  pub asks : List FileQuestion

abbrev pub system_path_by : {E : Type 0} → SystemAnswers → SystemTree E → SystemPath E
system_path_by f t = record {
  end = result_of f t;
  cells = addresses (state_questions (questions_of f t));
  offsets = script_offsets (state_questions (questions_of f t));
  asks = file_questions (questions_of f t);
}

-- The path of a call without the files.
abbrev pub call_path : SystemPath SystemEnd → CallPath
call_path p = record { end = p.end.0; cells = p.cells; offsets = p.offsets }

-- A call that was executed: files were changed so, and exactly what it asked about files was marked.
pub record ChangesFiles (change : FileChange) (asks : List FileQuestion) (old new : TableView) : Type 0 where
  pub own : new.own ≡ own_after_change change old.own
  pub looks : new.looks ≡ look_for_all old.own asks old.looks

-- A call that ran out of memory: no file was changed, and nothing was marked that the whole call does not ask.
pub record AddsOnlyAsks (asks : List FileQuestion) (old new : TableView) : Type 0 where
  pub own : new.own ≡ old.own
  pub bound : KeepsAsks new.looks (look_for_all old.own asks old.looks)

-- The effect of a function that executes the call of a path, on the state of a call and on files.
pub record PerformsSystemCall (p : SystemPath SystemEnd) (old : Scene) (files : TableView) (result : Result Served AllocError) (new : Scene) (files' : TableView) : Type 0 where
  pub call : PerformsCall (call_path p) old result new
  pub executed : OnOk result (ChangesFiles p.end.1 p.asks files files')
  pub failed : OnErr result (AddsOnlyAsks p.asks files files')
  pub extends : KeepsAsks files.looks files'.looks
  pub host : files'.host ≡ files.host
  pub lends : files'.lender ≡ files.lender

-- The effect of a function that executes a call over a script.
abbrev pub MakesSystemCall : (Regs → Spot → SystemTree SystemEnd) → List ℕ → Scene → TableView → Result Served AllocError → Scene → TableView → Type 0
MakesSystemCall call script old files result new files' =
    PerformsSystemCall (system_path_by (system_answers (bytes old.memory) script files.host files.own) (call old.regs old.desk.spot)) old files result new files'
