-- What was written of the console text and of the trace of a run.
use Rattle.std.proofs.Common.{◌≡◌, ◌⊎◌, ◌++◌, ◌∙◌, ℕ, List, length, take, Option, Some, Result, Ok, Err, OnOk, IfErr, ap, inl, inr, refl, subst, sym, le_refl}
use Rattle.std.specs.Io.KnownBytes.{Appends}
use Rattle.std.proofs.lemmas.List.{take_all}
use Rattle.command_words.specs.declared.words.Words.{Words}
use Rattle.faults.specs.Faults.{file_paths, of_failure}
use Rattle.faults.specs.declared.fault.Fault.{Fault}
use Rattle.folders.specs.Faults.{FailsBy, IsWriteFault, failure_paths}
use Rattle.folders.specs.FileSystem.{Path}
use Rattle.folders.specs.declared.fault.Failure.{Failure}
use Rattle.folders.specs.declared.fault.Failure.TheVariants.{AtFault, OutOfMemory}
use Rattle.one_run.specs.RunTexts.{BreaksRun, WritesFirst}
use Rattle.one_run.specs.declared.running.RunFault.{RunFault}
use Rattle.one_run.specs.declared.running.RunFault.TheVariants as run_fault
use Rattle.streams.specs.Streams.{Output, WritesPart, WritesWhole}
use Rattle.streams.proofs.WrittenPieces.{whole_nil}
use Rattle.cpmrun.specs.Reports.{trace_path}
use Rattle.cpmrun.specs.RunEnds.{BreaksConsole, IsTraceFault, fault_of}

-- Nothing was written.
pub none_written : (o : Output) (text : List ℕ) → WritesFirst o o text
none_written o text = (0, whole_nil o)

module _ {T : Type 0} (console trace : List ℕ) (out out' t t' : Output) where
  -- A prefix of the console text was written, whatever the end of the run.
  pub console_part : (r : Result T RunFault) → OnOk r (WritesWhole out out' console) → IfErr r (λ f. BreaksRun f console trace out out' t t')
      → WritesFirst out out' console ⊎ WritesPart out out' console
  console_part (Ok x) done broken = inl (length console, subst (WritesWhole out out') (sym (take_all (length console) console (le_refl (length console)))) done)
  console_part (Err run_fault.Console) done broken = inr broken.0
  console_part (Err run_fault.Trace) done broken = inl broken.0
  console_part (Err run_fault.OutOfMemory) done broken = inl broken.0

  -- The same for the trace.
  pub trace_part : (r : Result T RunFault) → OnOk r (WritesWhole t t' trace) → IfErr r (λ f. BreaksRun f console trace out out' t t')
      → (count : ℕ) × Appends t.holds t'.holds (take count trace)
  trace_part (Ok x) done broken = (length trace, subst (Appends t.holds t'.holds) (sym (take_all (length trace) trace (le_refl (length trace)))) done.bytes)
  trace_part (Err run_fault.Console) done broken = elim broken.1 [
    | inl first ↦ (first.0, first.1.bytes)
    | inr part ↦ (part.count, part.bytes)
  ]
  trace_part (Err run_fault.Trace) done broken = (broken.1.count, broken.1.bytes)
  trace_part (Err run_fault.OutOfMemory) done broken = (broken.1.0, broken.1.1.bytes)

-- Why the run was broken off.
module _ (console trace : List ℕ) (out out' t t' : Output) where
  pub breaks_console : (w : Words) (f : RunFault) → BreaksRun f console trace out out' t t' → BreaksConsole w console out out' (fault_of w f)
  breaks_console w run_fault.Console broken = inl (refl, broken.0)
  breaks_console w run_fault.Trace broken = inr (inl (refl, broken.0))
  breaks_console w run_fault.OutOfMemory broken = inr (inl (refl, broken.0))

-- An error of writing the trace.
trace_fault : (path : Path) (f : Failure) → FailsBy (IsWriteFault path) f → IsTraceFault (Some path) (of_failure f)
trace_fault path (AtFault f) h = h
trace_fault path OutOfMemory h = tt

pub breaks_by_trace : (w : Words) (path : Path) (text : List ℕ) (old new : Output) (f : Failure) (fault : Fault) → trace_path w ≡ Some path → fault ≡ of_failure f
    → FailsBy (IsWriteFault path) f → WritesFirst old new text ⊎ WritesPart old new text → BreaksConsole w text old new fault
breaks_by_trace w path text old new f fault is e fails written =
    inr (inr (subst (λ (o : Option Path). IsTraceFault o fault) (sym is) (subst (IsTraceFault (Some path)) (sym e) (trace_fault path f fails)), written))

-- The paths that an error of the file system reports.
same_paths : (f : Failure) → file_paths (of_failure f) ≡ failure_paths f
same_paths (AtFault f) = refl
same_paths OutOfMemory = refl

pub paths_failed : (f : Failure) (fault : Fault) (paths before middle after : List Path) → fault ≡ of_failure f → failure_paths f ≡ paths → middle ≡ before → after ≡ paths ++ middle
    → after ≡ file_paths fault ++ before
paths_failed f fault paths before middle after e p m a =
    a ∙ ap (λ t. t ++ middle) (sym p ∙ sym (same_paths f) ∙ sym (ap file_paths e)) ∙ ap (λ t. file_paths fault ++ t) m
