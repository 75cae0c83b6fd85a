-- One run of the session of the words: what it writes and changes, its status, and what an error leaves. (This project's profile.)
use Rattle.std.specs.Prelude.{◌≡◌, ◌⊎◌, ◌||◌, ◌&&◌, ◌++◌, ℕ, Bool, true, false, not, if◌then◌else◌, List, [], ◌∷◌, Option, Some, None, Result, IfSome, MatchOption, Ok, Err, get_or, is_some, map, take}
use Rattle.std.specs.Borrow.{Bor}
use Rattle.std.specs.List.{All, list_any}
use Rattle.command_words.specs.RunLine.{session_words}
use Rattle.command_words.specs.declared.words.Words.{Words}
use Rattle.faults.specs.Faults.{of_failure}
use Rattle.faults.specs.declared.fault.Fault.{Fault}
use Rattle.faults.specs.declared.fault.Fault.TheVariants.{CannotWrite, DiskUnchanged, Folders, OutOfMemory}
use Rattle.one_run.specs.Explanations.{explanation}
use Rattle.folders.specs.ChangedBytes.{written_bytes}
use Rattle.dependencies.specs.Bios.{bios_look}
use Rattle.disks.specs.Given.{has_disks}
use Rattle.folders.specs.DriveFolders.{folders_with, seen}
use Rattle.folders.specs.Faults.{FailsBy, IsWriteFault}
use Rattle.folders.specs.FileSystem.{FileBytes, HasBytes, Path, StoredFiles}
use Rattle.folders.specs.declared.drive_folder.DriveFolder.{DriveFolder}
use Rattle.folders.specs.declared.contents.Written.{Written}
use Rattle.folders.specs.declared.fault.Failure.{Failure}
use Rattle.folders.specs.declared.fault.Fault as folders_fault
use Rattle.folders.specs.declared.fault.Fault.TheVariants.{NoFolder}
use Rattle.folders.specs.declared.listing.Listing.{Listing}
use Rattle.folders.specs.declared.places.Places.{Places}
use Rattle.machine.specs.Cause.{Cause}
use Rattle.machine.specs.Cause.TheVariants.{WarmBoot}
use Rattle.machine.specs.Inputs.{Session}
use Rattle.machine.specs.PlainState.{plain_run}
use Rattle.make_rules.specs.RefusedPaths.{FailsPaths}
use Rattle.one_run.specs.ChangedList.{Changed, changed_list, first_unplaced, is_on_disk, planned}
use Rattle.one_run.specs.DryRun.{IsForetellFault, foretold, leave_lines, would_lines}
use Rattle.one_run.specs.Left.{left_on}
use Rattle.one_run.specs.Room.{HasRoom, IsRoomFault}
use Rattle.one_run.specs.StopLines.{stop_lines}
use Rattle.one_run.specs.RunTexts.{WritesFirst, stop_status}
use Rattle.one_run.specs.Trace.{console_text, each_call, trace_text}
use Rattle.one_run.specs.declared.planning.Turn.TheVariants.{Outside, New, Replacing, Gone}
use Rattle.one_run.specs.declared.running.RunFault.{RunFault}
use Rattle.one_run.specs.declared.running.RunFault.TheVariants.{Console}
use Rattle.one_run.specs.declared.reporting.Disks.{Disks}
use Rattle.one_run.specs.declared.reporting.Disks.TheVariants as became
use Rattle.plan.specs.Carries.{Carries, CarriesEach}
use Rattle.plan.specs.Faults.{IsAnyWriteFault}
use Rattle.plan.specs.Wanted.{Wanted, wanted_of}
use Rattle.plan.specs.declared.deed.Deed.{Deed}
use Rattle.requests.specs.Acts.{Act, and_then, checked, exits, report, with_some}
use Rattle.requests.specs.Programs.{Task}
use Rattle.requests.specs.Requests.{WritesNothing}
use Rattle.streams.specs.Streams.{Output, WritesOrFails, WritesPart, WritesWhole}
use Rattle.cpmrun.specs.declared.disks_after.Unsynced.{Unsynced}
use Rattle.cpmrun.specs.Reports.{AllowsRule, IsEarly, IsElsewhere, IsPlanFault, IsRuleOf, Told, put_paths, report_part, rule_path, trace_path, written_folders}

-- Whether a run notes what it asks for: for a rule for make, or to know whether it looked for the BIOS.
abbrev pub notes_looks : Words → Bool
notes_looks w = is_some w.deps || has_disks w

-- The cell at which a run with disks looked for the BIOS before its warm start. The program did not find what it needs, so it failed.
abbrev pub is_warm : Cause → Bool
is_warm WarmBoot = true
is_warm cause = false

abbrev pub looked_for : Words → Session → Option ℕ
looked_for w s = if has_disks w && is_warm (plain_run s).cause then bios_look s else None

-- Whether the run changes the disks: it stopped by the warm start and did not look for the BIOS, or the words ask for it whatever the stop.
abbrev pub changes_disks : Words → Cause → Option ℕ → Bool
changes_disks w cause looked = w.partial || (is_warm cause && not (is_some looked))

-- What becomes of the disks of the words after a run that stopped by this cause.
abbrev pub disks_after : Words → Cause → Option ℕ → Disks
disks_after w cause looked = if has_disks w then (if changes_disks w cause looked then became.Changed else became.Unchanged) else became.Absent

-- The exit status after a run: 1 if a folder was not synced, and 6, as after a stop in the system area, if it looked for the BIOS.
abbrev pub exit_status : Cause → Option ℕ → List (Option (Bor Path)) → ℕ
exit_status cause looked unsynced = if list_any is_some unsynced then 1 else if is_some looked then 6 else stop_status cause

-- The places of the words, with the names that the folders have at the start.
pub record ArePlaces (w : Words) (listings : List (Option Listing)) (p : Places) : Type 0 where
  pub out : p.out ≡ w.out
  pub disks : map seen p.disks ≡ folders_with w.disk listings

-- The changed files of the run of a session, with their places.
abbrev pub changed_by_run : Places → Session → List Changed
changed_by_run p s = changed_list p s.files (plain_run s).state.files

-- ---- what is written while the run goes on

-- The trace is written to this path, if there is one. No other file is changed.
abbrev pub WritesTrace : Option Path → List ℕ → StoredFiles → StoredFiles → Type 0
WritesTrace None text before after = after ≡ before
WritesTrace (Some path) text before after = HasBytes path text before after

-- A prefix of it is written, or no file is changed.
abbrev pub BreaksTrace : Option Path → List ℕ → StoredFiles → StoredFiles → Type 0
BreaksTrace None text before after = after.bytes ≡ before.bytes
BreaksTrace (Some path) text before after = (after.bytes ≡ before.bytes) ⊎ ((count : ℕ) × HasBytes path (take count text) before after)

-- An error of writing the trace to this path.
abbrev pub IsTraceFault : Option Path → Fault → Type 0
IsTraceFault None fault = ⊥
IsTraceFault (Some path) (Folders f) = IsWriteFault path f
IsTraceFault (Some path) OutOfMemory = Unit {0}
IsTraceFault (Some path) fault = ⊥

-- The error for a console text that was not written in full: it says also that the disks are as they were.
abbrev pub unwritten : Words → Fault
unwritten w = if has_disks w then DiskUnchanged else CannotWrite

-- The error of a run that is broken off.
abbrev pub fault_of : Words → RunFault → Fault
fault_of w Console = unwritten w
fault_of w fault = OutOfMemory

-- Why a run is broken off, and what was written of its console text: writing it failed, an allocation failed, or the trace was not written,
-- whose error comes before one of the console.
abbrev pub BreaksConsole : Words → List ℕ → Output → Output → Fault → Type 0
BreaksConsole w text old new fault =
    ((fault ≡ unwritten w) × WritesPart old new text)
    ⊎ ((fault ≡ OutOfMemory) × WritesFirst old new text)
    ⊎ (IsTraceFault (trace_path w) fault × (WritesFirst old new text ⊎ WritesPart old new text))

-- The console text and the trace are written while the session runs. An error leaves a prefix of each, and every other file as it was.
abbrev pub stream : Words → Session → Act
stream w s = record {
  Does = λ before after.
      WritesWhole before.out after.out (console_text s) × WritesTrace (trace_path w) (trace_text each_call s) before.files after.files
      × (after.err ≡ before.err);
  Leaves = λ before after fault.
      BreaksConsole w (console_text s) before.out after.out fault × BreaksTrace (trace_path w) (trace_text each_call s) before.files after.files;
}

-- ---- what the disks need

-- If disks are changed, each changed file has a place, and the folder of each disk has room for its files.
abbrev pub HasRoomOn : StoredFiles → Option DriveFolder → List Changed → ℕ → Type 0
HasRoomOn files disk cs drive = IfSome disk (λ d. HasRoom files drive d.folder.now cs)

pub record Fit (files : StoredFiles) (disks : List (Option DriveFolder)) (cs : List Changed) : Type 0 where
  pub placed : first_unplaced cs ≡ None
  pub room : All (λ drive. HasRoomOn files (get_or disks drive None) cs drive) (0 ∷ 1 ∷ 2 ∷ 3 ∷ [])

-- Why they do not: the first changed file without a place, or a folder without room.
abbrev pub HasNoRoom : List Changed → folders_fault.Fault → Type 0
HasNoRoom cs fault = (folder : Path) × IsRoomFault folder cs fault

abbrev pub IsUnfitFault : List Changed → folders_fault.Fault → Type 0
IsUnfitFault cs (NoFolder name) = first_unplaced cs ≡ Some name
IsUnfitFault cs fault = HasNoRoom cs fault

abbrev pub IsUnfit : Disks → List Changed → Fault → Type 0
IsUnfit disks cs (Folders fault) = (disks ≡ became.Changed) × IsUnfitFault cs fault
IsUnfit disks cs OutOfMemory = Unit {0}
IsUnfit disks cs fault = ⊥

-- This is checked before a file is changed.
abbrev pub check : Disks → Places → List Changed → Act
check disks p cs = record {
  Does = λ before after. (disks ≡ became.Changed → Fit before.files p.disks cs) × (after ≡ before);
  Leaves = λ before after fault. IsUnfit disks cs fault × WritesNothing before after;
}

-- ---- the plan

-- What is planned on disks: nothing if they stay unchanged.
abbrev pub on_disks : Disks → List Wanted → List Wanted
on_disks became.Unchanged plan = []
on_disks disks plan = plan

-- What is put onto disks: new files, and then files that replace others.
abbrev pub disk_puts : Disks → List Changed → List Wanted
disk_puts disks cs = on_disks disks (planned New cs) ++ on_disks disks (planned Replacing cs)

-- All that is put in place: outside of disks, and then onto disks.
abbrev pub puts : Disks → List Changed → List Wanted
puts disks cs = planned Outside cs ++ disk_puts disks cs

-- The plan for disks: that, then the rule if it is part of the plan, and the files that are gone are removed last.
pub record IsWhole (disks : Disks) (cs : List Changed) (rule : Option Told) (before : StoredFiles) (plan : List Wanted) : Type 0 where
  pub with_rule : Bool
  pub apart : with_rule ≡ false → IsElsewhere rule before
  pub is : plan ≡ disk_puts disks cs ++ report_part with_rule rule ++ on_disks disks (planned Gone cs)

abbrev pub asked : List (Deed Written) → List Wanted
asked deeds = map (wanted_of written_bytes) deeds

-- The files outside of disks were written one after another, or this broke off.
pub record WritesOutside (outside : List Wanted) (before after : Option FileBytes) (result : Result (Unit {0}) Failure) : Type 0 where
  pub deeds : List (Deed Written)
  pub is : asked deeds ≡ outside
  pub carried : CarriesEach written_bytes deeds before after result

-- They were, and then the plan for disks was carried out, or broke off.
pub record CarriesPlan (outside plan : List Wanted) (before after : Option FileBytes) (result : Result (Unit {0}) Failure) : Type 0 where
  pub middle : Option FileBytes
  pub first : WritesOutside outside before middle (Ok tt)
  pub deeds : List (Deed Written)
  pub is : asked deeds ≡ plan
  pub carried : Carries written_bytes deeds middle after result

-- Why files were not changed as planned: writing outside of disks or the plan for disks broke off; or all was carried out, and the rule was not
-- written into what is no regular file.
abbrev pub BreaksOff : List Wanted → List Wanted → Option FileBytes → Option FileBytes → Fault → Type 0
BreaksOff outside plan before after fault =
    (f : Failure) × (fault ≡ of_failure f) × (WritesOutside outside before after (Err f) ⊎ CarriesPlan outside plan before after (Err f))

abbrev pub BreaksPlan : List Wanted → List Wanted → Option FileBytes → Option FileBytes → Fault → Type 0
BreaksPlan outside plan before after fault =
    BreaksOff outside plan before after fault
    ⊎ ((f : Failure) × (fault ≡ of_failure f) × FailsBy IsAnyWriteFault f × CarriesPlan outside plan before after (Ok tt))

-- ---- the change of files

-- The plan for disks of a run that changes these files, with the rule that the words ask for.
pub record IsPlan (w : Words) (listings : List (Option Listing)) (s : Session) (disks : Disks) (cs : List Changed) (before : StoredFiles) (plan : List Wanted) : Type 0 where
  pub rule : Option Told
  pub rule_is : IsRuleOf w listings (put_paths (puts disks cs)) s rule
  pub whole : IsWhole disks cs rule before plan

-- The files were changed by the plan of the run.
pub record ChangesFiles (w : Words) (listings : List (Option Listing)) (s : Session) (disks : Disks) (cs : List Changed) (before : StoredFiles) (after : Option FileBytes) : Type 0 where
  pub plan : List Wanted
  pub is : IsPlan w listings s disks cs before plan
  pub carries : CarriesPlan (planned Outside cs) plan before.bytes after (Ok tt)

-- This broke off: before a file was changed, or while the plan was carried out.
abbrev pub BreaksChanges : Words → List (Option Listing) → Session → Disks → List Changed → StoredFiles → Option FileBytes → Fault → Type 0
BreaksChanges w listings s disks cs before after fault =
    ((IsEarly w fault ⊎ IsPlanFault fault) × (after ≡ before.bytes))
    ⊎ ((plan : List Wanted) × IsPlan w listings s disks cs before plan × BreaksPlan (planned Outside cs) plan before.bytes after fault)

-- The files are changed by the plan of the run, and its rule is written.
abbrev pub change : Words → List (Option Listing) → Session → Disks → List Changed → Act
change w listings s disks cs = record {
  Does = λ before after. ChangesFiles w listings s disks cs before.files after.files.bytes × (after.out ≡ before.out) × (after.err ≡ before.err);
  Leaves = λ before after fault. BreaksChanges w listings s disks cs before.files after.files.bytes fault × (after.out ≡ before.out);
}

-- ---- a dry run

-- What a dry run reports: all that would be done, in order, and the disks that would be left unchanged.
abbrev pub whole_plan : Disks → List Changed → List Wanted
whole_plan disks cs = puts disks cs ++ on_disks disks (planned Gone cs)

abbrev pub dry_lines : Words → FileBytes → Disks → List Changed → List ℕ
dry_lines w stored disks cs = would_lines (foretold stored (whole_plan disks cs)) ++ leave_lines disks cs w.disk

-- Why it reports nothing.
abbrev pub IsDryFault : Fault → Type 0
IsDryFault (Folders f) = IsForetellFault f
IsDryFault OutOfMemory = Unit {0}
IsDryFault fault = ⊥

-- It changes no file.
abbrev pub pretend : Words → Disks → List Changed → Act
pretend w disks cs = record {
  Does = λ before after. (after.files ≡ before.files) × (after.out ≡ before.out)
      × IfSome before.files.bytes (λ stored. WritesOrFails before.err after.err (dry_lines w stored disks cs));
  Leaves = λ before after fault. IsDryFault fault × WritesNothing before after;
}

-- What is done with the changed files.
abbrev pub one_of : Bool → Act → Act → Act
one_of true first second = first
one_of false first second = second

abbrev pub settle : Words → List (Option Listing) → Session → Disks → List Changed → Act
settle w listings s disks cs = one_of w.dry_run (pretend w disks cs) (change w listings s disks cs)

-- A dry run leaves no folder unsynced.
abbrev pub all_synced : Unsynced
all_synced = record { out = false ∷ false ∷ false ∷ false ∷ []; disks = false ∷ false ∷ false ∷ false ∷ [] }

abbrev pub MayLeaveUnsynced : Words → Unsynced → Type 0
MayLeaveUnsynced w unsynced = w.dry_run ≡ true → unsynced ≡ all_synced

-- ---- the run

-- The folders that were not synced: those for changed files, and the disks.
abbrev pub if_unsynced : Option (Bor Path) → Bool → Option (Bor Path)
if_unsynced folder failed = if failed then folder else None

abbrev pub unsynced_in : List (Option (Bor Path)) → List Bool → List (Option (Bor Path))
unsynced_in folders failed = map (λ drive. if_unsynced (get_or folders drive None) (get_or failed drive false)) (0 ∷ 1 ∷ 2 ∷ 3 ∷ [])

abbrev pub unsynced_folders : Words → Unsynced → List (Option (Bor Path))
unsynced_folders w unsynced = unsynced_in w.out unsynced.out ++ unsynced_in w.disk unsynced.disks

-- Whether a changed file is on a disk that stays unchanged.
abbrev pub keeps_disk : Disks → List Changed → Bool
keeps_disk became.Unchanged cs = list_any is_on_disk cs
keeps_disk disks cs = false

-- What explains the stop of a run, if the words ask for that.
abbrev pub explained : Words → Session → Disks → List Changed → List ℕ
explained w s disks cs = if w.explain then explanation (keeps_disk disks cs) (plain_run s) else []

-- What is reported about the end of a run, which then exits with this status.
abbrev pub reporting : Words → Session → Disks → List Changed → List Path → ℕ → List (Option (Bor Path)) → Act
reporting w s disks cs left status unsynced =
    exits status (exit_status (plain_run s).cause (looked_for w s) unsynced)
    (and_then (report (stop_lines (plain_run s).cause disks (looked_for w s) cs left unsynced)) (report (explained w s disks cs)))

-- What the disks need is checked, the files are changed, and the end is reported.
abbrev pub finish : Words → Session → List (Option Listing) → Places → ℕ → Disks → List Changed → Act
finish w s listings p status disks cs = and_then (check disks p cs) (and_then (settle w listings s disks cs)
    (with_some (MayLeaveUnsynced w) (λ unsynced. reporting w s disks cs (left_on p.disks) status (unsynced_folders w unsynced))))

-- What is done after the session has ended: its files are changed, on the disks only if it changes them, and then its stop is reported.
abbrev pub ending : Words → List (Option Listing) → Session → ℕ → Act
ending w listings s status = with_some (ArePlaces w listings)
    (λ p. finish w s listings p status (disks_after w (plain_run s).cause (looked_for w s)) (changed_by_run p s))

-- A run: its console text and its trace, and then that.
abbrev pub run : Words → List (Option Listing) → Session → ℕ → Act
run w listings s status = checked (IsEarly w) (and_then (stream w s) (ending w listings s status))

-- A rule for make cannot have a path of the words.
abbrev pub RefusesRule : Words → Fault → Type 0
RefusesRule w fault = MatchOption w.deps ⊥ (λ path. FailsPaths (session_words w) (rule_path w path) (written_folders w) fault)

-- The session of the words is run once.
abbrev pub run_once : Words → Task
run_once w = record {
  session = session_words w;
  Refuses = λ fault. IsEarly w fault ⊎ RefusesRule w fault;
  Allows = AllowsRule w;
  act = λ s listings status. run w listings s status;
}
