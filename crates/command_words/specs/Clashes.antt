-- Words that ask for two things of which one excludes the other, or for one without another that it needs. (This project's profile.)
use Rattle.std.specs.Prelude.{ℕ, ◌&&◌, Bool, not, if◌then◌else◌, List, [], ◌∷◌, ◌++◌, map, get_or, Option, Some, None, codes, is_some}
use Rattle.std.specs.Option.{option_map}
use Rattle.command_words.specs.declared.clashes.Clash.{Clash}
use Rattle.command_words.specs.declared.clashes.Clash.TheVariants.{Both, SameFolder, Missing}
use Rattle.command_words.specs.declared.trace_words.TraceWords.{TraceWords}
use Rattle.command_words.specs.declared.words.DependencyWords.{DependencyWords}
use Rattle.command_words.specs.declared.words.SessionWords.{SessionWords}
use Rattle.command_words.specs.declared.words.Words.{Words}

abbrev pub are_both : {X Y : Type 0} → Option X → Option Y → Bool
are_both a b = is_some a && is_some b

-- The numbers of the drives.
abbrev drives : List ℕ
drives = 0 ∷ 1 ∷ 2 ∷ 3 ∷ []

-- For a drive both are given.
abbrev pub has_both : {X Y : Type 0} → List (Option X) → List (Option Y) → ℕ → Bool
has_both xs ys drive = are_both (get_or xs drive None) (get_or ys drive None)

-- A check of the options that were given: whether it fails, and the options that its error names.
pub record Check : Type 0 where
  pub fails : Bool
  pub names : List (List ℕ)

abbrev pub exclusive : Bool → List ℕ → List ℕ → Check
exclusive both first second = record { fails = both; names = first ∷ second ∷ [] }

abbrev pub script_check : {X Y : Type 0} → Option X → Option Y → Check
script_check console typed = exclusive (are_both console typed) (codes "--console <FILE>") (codes "--typed <TEXT>")

abbrev pub listing_check : DependencyWords → Check
listing_check w = exclusive (is_some w.target && w.by_step) (codes "--make <TARGET>") (codes "--by-step")

-- For each drive its folder and its disk.
abbrev pub drive_checks : {X Y : Type 0} → List (List ℕ) → List (List ℕ) → List (Option X) → List (Option Y) → List Check
drive_checks firsts seconds xs ys = map (λ drive. exclusive (has_both xs ys drive) (get_or firsts drive []) (get_or seconds drive [])) drives

abbrev pub files_options : List (List ℕ)
files_options = codes "--files <DIR>" ∷ codes "--files-b <DIR>" ∷ codes "--files-c <DIR>" ∷ codes "--files-d <DIR>" ∷ []

abbrev pub out_options : List (List ℕ)
out_options = codes "--out <DIR>" ∷ codes "--out-b <DIR>" ∷ codes "--out-c <DIR>" ∷ codes "--out-d <DIR>" ∷ []

abbrev pub disk_options : List (List ℕ)
disk_options = codes "--disk <DIR>" ∷ codes "--disk-b <DIR>" ∷ codes "--disk-c <DIR>" ∷ codes "--disk-d <DIR>" ∷ []

-- What can be wrong, in the order in which it is looked for.
abbrev pub session_checks : SessionWords → List Check
session_checks w = script_check w.console w.typed ∷ drive_checks files_options disk_options w.own w.disk

-- Edit lines are replayed without a rule for make and without a trace, and not as a dry run, and a target is one of a rule for make.
abbrev pub report_checks : Words → List Check
report_checks w =
    exclusive (are_both w.edits w.deps) (codes "--edits <FILE>") (codes "--deps <FILE>")
    ∷ exclusive (are_both w.edits w.trace) (codes "--edits <FILE>") (codes "--trace <FILE>")
    ∷ exclusive (is_some w.edits && w.dry_run) (codes "--edits <FILE>") (codes "--dry-run")
    ∷ record { fails = is_some w.target && not (is_some w.deps); names = codes "--deps <FILE>" ∷ [] } ∷ []

abbrev pub run_checks : Words → List Check
run_checks w =
    script_check w.console w.typed ∷ report_checks w ++ drive_checks files_options disk_options w.files w.disk
    ++ drive_checks out_options disk_options w.out w.disk

abbrev pub dependency_checks : DependencyWords → List Check
dependency_checks w = listing_check w ∷ session_checks w.session

abbrev pub trace_checks : TraceWords → List Check
trace_checks w = session_checks w.session

-- The names of the first check that fails.
abbrev pub first_failed : List Check → Option (List (List ℕ))
first_failed [] = None
first_failed (c ∷ rest) = if c.fails then Some c.names else first_failed rest

-- The names that an error has: both options, or the one that is missing. What folders are is not seen from the words.
abbrev pub names_in : Clash → List (List ℕ)
names_in (Both first second) = first.now ∷ second.now ∷ []
names_in (SameFolder first second) = []
names_in (Missing option) = option.now ∷ []

abbrev pub names_of : Option Clash → Option (List (List ℕ))
names_of clash = option_map names_in clash

-- The words of a program are a usage error.
abbrev pub run_clashes : Words → Bool
run_clashes w = is_some (first_failed (run_checks w))

abbrev pub dependency_clashes : DependencyWords → Bool
dependency_clashes w = is_some (first_failed (dependency_checks w))

abbrev pub trace_clashes : TraceWords → Bool
trace_clashes w = is_some (first_failed (trace_checks w))
