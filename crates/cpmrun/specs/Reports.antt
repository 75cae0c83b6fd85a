-- What a run reports into files: a rule for make, and a trace. (This project's profile.)
use Rattle.std.specs.Prelude.{◌≡◌, ◌⊎◌, ℕ, Bool, true, false, [], ◌∷◌, ◌++◌, List, Option, Some, None, IfSome, codes, get_or, if◌then◌else◌, map, option_map, string_bytes, unwrap_or}
use Rattle.std.specs.Borrow.{Bor}
use Rattle.std.specs.List.{flat_map}
use Rattle.std.specs.Str.{bytes_eq}
use Rattle.command_words.specs.RunLine.{session_words}
use Rattle.command_words.specs.declared.clashes.Clash.{Clash}
use Rattle.command_words.specs.declared.words.Words.{Words}
use Rattle.disks.specs.Given.{AreGiven, IsAnyReadFault}
use Rattle.folders.specs.FileSystem.{IsKindAt, Path, StoredFiles}
use Rattle.folders.specs.declared.file_system.Kind.TheVariants.{Other}
use Rattle.folders.specs.declared.listing.Listing.{Listing}
use Rattle.machine.specs.Inputs.{Session}
use Rattle.make_rules.specs.RefusedPaths.{refuses_rule}
use Rattle.make_rules.specs.RunRules.{IsRule}
use Rattle.plan.specs.Faults.{IsAnyWriteFault}
use Rattle.plan.specs.Wanted.{Wanted, wanted}
use Rattle.faults.specs.Faults.{usage_text, value_text}
use Rattle.requests.specs.Requests.{clash_reason}
use Rattle.faults.specs.declared.fault.Fault.{Fault}
use Rattle.faults.specs.declared.fault.Fault.TheVariants.{Folders, OutOfMemory, Usage}
use Rattle.faults.specs.declared.tool.Tool.TheVariants.{Cpmrun}
use Rattle.cpmrun.specs.declared.reports.Placing.{Placing}
use Rattle.cpmrun.specs.declared.reports.Placing.TheVariants.{InPlan, Through}
use Rattle.cpmrun.specs.declared.reports.Report.{Report}

-- The path of a report, and its text.
abbrev pub Told : Type 0
Told = Path × List ℕ

abbrev pub told : Report → Told
told report = (report.path.now, report.text.items)

-- The path of a rule that is asked whether a rule can have it: the target of the words, or else the file of the rule.
abbrev pub rule_path : Words → Bor Path → Bor Path
rule_path w path = unwrap_or w.target path

-- The folders that are written, as a rule may have to name them: those for changed files, and the disks.
abbrev pub written_folders : Words → List (Option (Bor Path))
written_folders w = map (λ drive. get_or w.out drive None) (0 ∷ 1 ∷ 2 ∷ 3 ∷ []) ++ map (λ drive. get_or w.disk drive None) (0 ∷ 1 ∷ 2 ∷ 3 ∷ [])

-- A rule can have the paths of the words, if they ask for one.
abbrev pub AllowsRule : Words → Type 0
AllowsRule w = IfSome w.deps (λ path. refuses_rule (session_words w) (rule_path w path) (written_folders w) ≡ false)

-- The paths of the files that are put in place.
abbrev pub put_path : Path → Option (List ℕ) → List Path
put_path path None = []
put_path path (Some bytes) = path ∷ []

abbrev pub put_paths : List Wanted → List Path
put_paths plan = flat_map (λ w. put_path w.path w.contents) plan

-- The targets of a rule: the one of the words, or else the files that are put in place, or the file of the rule if there are none.
abbrev pub or_rule : Path → List Path → List Path
or_rule path [] = path ∷ []
or_rule path (target ∷ targets) = target ∷ targets

abbrev pub chosen : Option (Bor Path) → List Path → List Path
chosen None paths = paths
chosen (Some target) paths = target.now ∷ []

abbrev pub targets_of : Words → Path → List Path → List Path
targets_of w path written = chosen w.target (or_rule path written)

-- The path to which a report is written. `-` means standard output.
abbrev pub stream_path : Path → Path
stream_path path = if bytes_eq path (codes "-") then codes "/dev/stdout" else path

-- The rule that the words ask for, of a run that puts these files in place; or none.
abbrev pub IsRuleAt : Words → List (Option Listing) → List Path → Session → Option (Bor Path) → Option Told → Type 0
IsRuleAt w listings written s None None = Unit {0}
IsRuleAt w listings written s None (Some report) = ⊥
IsRuleAt w listings written s (Some path) None = ⊥
IsRuleAt w listings written s (Some path) (Some (p, text)) = (p ≡ stream_path path.now) × IsRule (session_words w) (targets_of w path.now written) listings s text

abbrev pub IsRuleOf : Words → List (Option Listing) → List Path → Session → Option Told → Type 0
IsRuleOf w listings written s rule = IsRuleAt w listings written s w.deps rule

-- The path to which the trace is written, if the words ask for one. A dry run writes none.
abbrev pub trace_path : Words → Option Path
trace_path w = if w.dry_run then None else option_map (λ path. stream_path path.now) w.trace

abbrev pub is_in_plan : Placing → Bool
is_in_plan InPlan = true
is_in_plan (Through file) = false

-- What a report adds to a plan, if it is part of it.
abbrev pub report_part : Bool → Option Told → List Wanted
report_part true (Some (path, text)) = wanted path None (Some text) ∷ []
report_part planned report = []

-- Neither a regular file nor nothing is at the path of a report, but a device, a pipe or a link, if the files are known.
abbrev pub IsElsewhere : Option Told → StoredFiles → Type 0
IsElsewhere None files = Unit {0}
IsElsewhere (Some (path, text)) files = IsKindAt files path Other

-- An error of making a plan: what is at a path could not be found, or no temporary path is free, or an allocation failed.
abbrev pub IsPlanFault : Fault → Type 0
IsPlanFault (Folders f) = IsAnyWriteFault f
IsPlanFault OutOfMemory = Unit {0}
IsPlanFault fault = ⊥

-- The reasons for which an option cannot have the path of a report.
abbrev pub is_read : List ℕ
is_read = codes "the run reads this file"

abbrev pub is_changed : List ℕ
is_changed = codes "the run changes this file"

abbrev pub may_change : List ℕ
may_change = codes "the run may change a file of this name"

abbrev pub is_on_disk : List ℕ
is_on_disk = codes "it would be a file of a disk"

abbrev pub is_other : List ℕ
is_other = codes "it is the file of '--trace <FILE>'"

-- The message if the option of this report cannot have its path, for this reason.
abbrev pub IsTaken : Option (Bor Path) → List ℕ → List ℕ → List ℕ → Type 0
IsTaken report option reason message = (path : Bor Path) × (report ≡ Some path) × (message ≡ value_text path.now option reason)

-- The message of a usage error that is seen in the files: two options have the same folder, or a report is to be written to a file that the run
-- reads or changes, or both reports to one file. A trace is written while the run goes on, so its name must be none that the run could change;
-- and a rule must not be on a disk under the name of a file.
abbrev pub IsFileUsage : Words → List ℕ → Type 0
IsFileUsage w message =
    ((clash : Clash) × AreGiven w clash × (message ≡ usage_text Cpmrun (clash_reason clash)))
    ⊎ IsTaken w.deps (codes "--deps <FILE>") is_read message ⊎ IsTaken w.trace (codes "--trace <FILE>") is_read message
    ⊎ IsTaken w.deps (codes "--deps <FILE>") is_other message ⊎ IsTaken w.deps (codes "--deps <FILE>") is_on_disk message
    ⊎ IsTaken w.trace (codes "--trace <FILE>") may_change message
    ⊎ IsTaken w.deps (codes "--deps <FILE>") is_changed message ⊎ IsTaken w.trace (codes "--trace <FILE>") is_changed message

-- An error of looking at files before one is changed.
abbrev pub IsEarly : Words → Fault → Type 0
IsEarly w (Usage text) = IsFileUsage w (string_bytes text)
IsEarly w (Folders f) = IsAnyReadFault f
IsEarly w OutOfMemory = Unit {0}
IsEarly w fault = ⊥

-- The same, of the option of one report.
abbrev pub IsTakenFault : Option (Bor Path) → List ℕ → List ℕ → Fault → Type 0
IsTakenFault report option reason (Usage text) = IsTaken report option reason (string_bytes text)
IsTakenFault report option reason (Folders f) = IsAnyReadFault f
IsTakenFault report option reason OutOfMemory = Unit {0}
IsTakenFault report option reason fault = ⊥
