-- For each record of a file, the first step that asked for it. (This project's own.)
use Rattle.std.specs.Prelude.{◌≡◌, refl, ℕ, ◌≤◌, ◌&&◌, ◌==◌, List, Option, Some, None}
use Rattle.std.specs.Ordering.{nat_cmp, eq_by_cmp}
use Rattle.std.specs.Cmp.Lexicographic.{slice_cmp}
use Rattle.std.specs.Map.{lookup}
use Rattle.std.specs.BTreeMap.{is_at}
use Rattle.std.specs.Coded.{Coded, code_by, coded_ℕ, coded_list, coded_option, coded×}
use Rattle.hostfiles.specs.Hosts.{Key}
use Rattle.first_looks.specs.Noting.{or_else, step_if, step_below}
use Rattle.first_looks.specs.FirstSteps.{Steps, step_in}

-- The steps of the records of each file that has one, and an upper bound of these steps.
pub record RecordNotes : Type 0 where
  pub files : List (Key × Steps)
  pub latest : ℕ

-- The steps of the records of a file.
abbrev pub steps_of : List (Key × Steps) → Key → Option Steps
steps_of files key = lookup (is_at (slice_cmp nat_cmp key)) files

-- The step at a record number, if there are steps.
abbrev pub step_within : Option Steps → ℕ → Option ℕ
step_within None number = None
step_within (Some steps) number = step_in steps.entries number

-- The step of a record.
abbrev pub step_of_record : RecordNotes → Key → ℕ → Option ℕ
step_of_record notes key number = step_within (steps_of notes.files key) number

-- No step of one file is later than n.
abbrev pub IsWithin : ℕ → Steps → Type 0
IsWithin n steps = (steps.latest ≤ n) × ((index step : ℕ) → step_in steps.entries index ≡ Some step → step ≤ n)

-- No step of any file is later than n.
abbrev pub AreWithin : ℕ → List (Key × Steps) → Type 0
AreWithin n files = (key : Key) (steps : Steps) → steps_of files key ≡ Some steps → IsWithin n steps

-- A record has this step, unless it had one before, and all other steps are unchanged.
abbrev pub NotesRecord : RecordNotes → Key → ℕ → ℕ → RecordNotes → Type 0
NotesRecord old key number step new =
    (q : Key) (k : ℕ) → step_of_record new q k ≡ or_else (step_of_record old q k) (step_if (eq_by_cmp (slice_cmp nat_cmp) q key && (k == number)) step)

-- The steps are the same.
abbrev pub SameRecordSteps : RecordNotes → RecordNotes → Type 0
SameRecordSteps old new = (q : Key) (k : ℕ) → step_of_record new q k ≡ step_of_record old q k

-- The steps from `from` on are erased.
abbrev pub ErasesRecords : ℕ → RecordNotes → RecordNotes → Type 0
ErasesRecords from old new = (q : Key) (k : ℕ) → step_of_record new q k ≡ step_below from (step_of_record old q k)

abbrev pub steps_code : Coded Steps
steps_code = code_by (List (Option ℕ) × ℕ) (coded× (coded_list (coded_option coded_ℕ)) coded_ℕ) (λ s. (s.entries, s.latest)) (λ p. record { entries = p.0; latest = p.1 }) (λ _. refl)

-- How the steps are stored.
abbrev pub record_notes_code : Coded RecordNotes
record_notes_code = code_by (List (Key × Steps) × ℕ) (coded× (coded_list (coded× (coded_list coded_ℕ) steps_code)) coded_ℕ)
    (λ s. (s.files, s.latest)) (λ p. record { files = p.0; latest = p.1 }) (λ _. refl)
