-- What contracts see of a state, and how its parts are stored. (This project's own.)
use Rattle.std.specs.Prelude.{◌≡◌, refl, ℕ, List, Option, Some, None}
use Rattle.std.specs.Ordering.{nat_cmp}
use Rattle.std.specs.FinMap.{FinMap, code}
use Rattle.std.specs.Cmp.Lexicographic.{slice_cmp}
use Rattle.std.specs.Coded.{Coded, code_by, coded_ℕ, coded_list, coded_option, coded×}
use base.Stored.{coded_unit}
use Rattle.pagemem.specs.ImageParts.{ImageParts}
use Rattle.hostfiles.specs.Order.{record_cmp}
use Rattle.console_calls.specs.declared.script_looks.ScriptLooks.{ScriptLooks}
use Rattle.hostfiles.specs.Hosts.{Host}
use Rattle.hostfiles.specs.Files as files
use Rattle.hostfiles.specs.declared.looks.FileLooks.{FileLooks}
use Rattle.hostfiles.specs.declared.journal.Base.{Base}
use Rattle.hostfiles.specs.declared.journal.Base.TheVariants.{Same, Gone, New, Moved}
use Rattle.hostfiles.specs.declared.journal.Growth.{Growth}
use Rattle.hostfiles.specs.declared.journal.Entry.{Entry}
use Rattle.machine.specs.Inputs.{Core}

abbrev pub files_code : Coded Host
files_code = code (coded_list coded_ℕ) (coded_list (coded_list coded_ℕ))

abbrev cases : Base → Option (Option (Option (List ℕ)))
cases Same = None
cases Gone = Some None
cases New = Some (Some None)
cases (Moved key) = Some (Some (Some key))

abbrev based : Option (Option (Option (List ℕ))) → Base
based None = Same
based (Some None) = Gone
based (Some (Some None)) = New
based (Some (Some (Some key))) = Moved key

pub base_cases : (b : Base) → based (cases b) ≡ b
base_cases Same = refl
base_cases Gone = refl
base_cases New = refl
base_cases (Moved key) = refl

abbrev base_code : Coded Base
base_code = code_by (Option (Option (Option (List ℕ)))) (coded_option (coded_option (coded_option (coded_list coded_ℕ)))) cases based base_cases

abbrev grown_code : Coded Growth
grown_code = code_by (ℕ × ℕ) (coded× coded_ℕ coded_ℕ) (λ g. (g.host_end, g.length)) (λ p. record { host_end = p.0; length = p.1 }) (λ _. refl)

abbrev entry_code : Coded Entry
entry_code = code_by (Base × (Option Growth × FinMap nat_cmp (List ℕ))) (coded× base_code (coded× (coded_option grown_code) (code coded_ℕ (coded_list coded_ℕ))))
    (λ e. (e.base, (e.grown, e.records))) (λ p. record { base = p.0; grown = p.1.0; records = p.1.1 }) (λ _. refl)

abbrev pub changes_code : Coded files.OwnFiles
changes_code = code (coded_list coded_ℕ) entry_code

abbrev pub looks_code : Coded FileLooks
looks_code = code_by (FinMap (slice_cmp nat_cmp) (Unit {0}) × (FinMap (slice_cmp nat_cmp) (Unit {0}) × (FinMap record_cmp (Unit {0}) × FinMap nat_cmp (Unit {0}))))
    (coded× (code (coded_list coded_ℕ) coded_unit) (coded× (code (coded_list coded_ℕ) coded_unit) (coded× (code (coded× (coded_list coded_ℕ) coded_ℕ) coded_unit) (code coded_ℕ coded_unit))))
    (λ l. (l.has, (l.lengths, (l.records, l.directories)))) (λ p. record { has = p.0; lengths = p.1.0; records = p.1.1.0; directories = p.1.1.1 }) (λ _. refl)

abbrev pub OwnCells : Type 0
OwnCells = FinMap nat_cmp ℕ

abbrev pub cells_code : Coded OwnCells
cells_code = code coded_ℕ coded_ℕ

-- What the steps so far wrote: the last byte of each written cell, and what they did to the files.
pub record Own : Type 0 where
  pub cells : OwnCells
  pub files : files.OwnFiles

-- A state without its session: everything that was not written is the session's.
pub record PartialState : Type 0 where
  pub core : Core
  pub own : Own

-- The looks of a run: cells in the order of their first looks, offsets of the script, and questions to the host files.
pub record AllLooks : Type 0 where
  pub cells : List ℕ
  pub offsets : ScriptLooks
  pub files : FileLooks

-- A state and its looks, with the parts of the image that its known cells belong to.
pub record StateView : Type 0 where
  pub state : PartialState
  pub looked : AllLooks
  pub beneath : ImageParts
