-- How a task that was done or broke off ends the program.
use Rattle.std.proofs.Common.{◌≡◌, ℕ, List, Option, subst, sym, inr, Some, None, Result, Ok, Err, IfErr, IfOk}
use Rattle.std.specs.Borrow.{Bor}
use Rattle.command_words.specs.declared.words.Words.{Words}
use Rattle.faults.specs.Faults.{file_paths}
use Rattle.faults.specs.declared.fault.Fault.{Fault}
use Rattle.folders.specs.Failures.{ReportsPaths}
use Rattle.folders.specs.FileSystem.{StoredFiles}
use Rattle.requests.specs.World.{World, world}
use Rattle.requests.specs.Programs.{Does, EndsWell, Fails, FaultOf}
use Rattle.streams.specs.Streams.{Output}
use Rattle.cpmrun.specs.AreWords.{AreWords}
use Rattle.cpmrun.specs.Ends.{Replay, program_with, replay_edits, task_of}
use Rattle.cpmrun.specs.RunEnds.{run_once}

module _ (R : Replay) (words : List (List ℕ)) (w : Words) (are : AreWords words w) where
  -- The session was run once.
  pub ran_once : (before after : World) (r : Result ℕ Fault) → w.edits ≡ None → ReportsPaths file_paths r before.files after.files
      → IfOk r (λ status. Does (run_once w) status before after) → IfOk r (λ status. EndsWell (program_with R) words status before after)
  ran_once before after (Ok status) none same h = record {
    failed = same;
    did = inr (w, are, subst (λ (o : Option (Bor (List ℕ))). Does (task_of R w o) status before after) (sym none) h);
  }
  ran_once before after (Err f) none same h = tt

  -- The edit lines were replayed.
  pub replayed : (path : Bor (List ℕ)) (before after : World) → w.edits ≡ Some path → after.files.failed ≡ before.files.failed → Does (replay_edits R w path.now) 0 before after
      → EndsWell (program_with R) words 0 before after
  replayed path before after some same h = record {
    failed = same;
    did = inr (w, are, subst (λ (o : Option (Bor (List ℕ))). Does (task_of R w o) 0 before after) (sym some) h);
  }

  module _ (files now : StoredFiles) (out written : Output) where
    -- The words have this error, whatever is written to standard error.
    abbrev pub HasFault : Fault → Type 0
    HasFault f = (old new : Output) → FaultOf (program_with R) words (world files out old) (world now written new) f

    pub run_broken : (r : Result ℕ Fault) → w.edits ≡ None → IfErr r (λ f. (old new : Output) → Fails (run_once w) (world files out old) (world now written new) f) → IfErr r HasFault
    run_broken (Ok status) none h = tt
    run_broken (Err f) none h =
        λ old new. inr (inr (w, are, subst (λ (o : Option (Bor (List ℕ))). Fails (task_of R w o) (world files out old) (world now written new) f) (sym none) (h old new)))

    pub replay_broken : (path : Bor (List ℕ)) (f : Fault) → w.edits ≡ Some path
        → ((old new : Output) → Fails (replay_edits R w path.now) (world files out old) (world now written new) f) → HasFault f
    replay_broken path f some h =
        λ old new. inr (inr (w, are, subst (λ (o : Option (Bor (List ℕ))). Fails (task_of R w o) (world files out old) (world now written new) f) (sym some) (h old new)))
