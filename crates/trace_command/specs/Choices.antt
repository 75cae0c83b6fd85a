-- The choice of steps that the words describe. (This project's profile.)
use Rattle.std.specs.Prelude.{◌≡◌, ◌==◌, ◌&&◌, ◌⊎◌, ℕ, Bool, nat_le, nat_lt, List, length, if◌then◌else◌, codes, IsSome, Option, Some, None, unwrap_or}
use Rattle.std.specs.Borrow.{Bor}
use Rattle.std.specs.Char.{is_ascii_hexdigit}
use Rattle.std.specs.List.{after_first, before_first, list_all, position_or_len}
use Rattle.std.specs.Result.{result_ok}
use Rattle.std.specs.Str.Parse.{digits_value}
use Rattle.command_words.specs.declared.trace_words.TraceWords.{TraceWords}
use Rattle.filenames.specs.Names.{Key, name_of}
use Rattle.faults.specs.Faults.{value_text}
use Rattle.faults.specs.declared.fault.Fault.{Fault}
use Rattle.requests.specs.Requests.{IsUsageError}
use Rattle.accesses.specs.declared.ranges.CellRange.{CellRange}
use Rattle.trace_filters.specs.declared.choice.Choice.{Choice}
use Rattle.trace_command.specs.declared.choice.Filter.{Filter}
use Rattle.trace_command.specs.declared.choice.Filter.TheVariants.{At, Writes, Reads, File}

-- The address of 1 to 4 hexadecimal digits, of either case.
abbrev pub is_address : List ℕ → Bool
is_address text = nat_lt 0 (length text) && nat_le (length text) 4 && list_all is_ascii_hexdigit text

abbrev pub address_of : List ℕ → Option ℕ
address_of text = if is_address text then Some (digits_value 16 text) else None

-- The cells from one address to another, if the first is no greater than the last.
abbrev pub cells_between : Option ℕ → Option ℕ → Option CellRange
cells_between (Some first) (Some last) = if nat_le first last then Some (record { first = first; last = last }) else None
cells_between first last = None

abbrev pub is_hyphen : ℕ → Bool
is_hyphen b = b == 45

abbrev pub has_hyphen : List ℕ → Bool
has_hyphen text = nat_lt (position_or_len is_hyphen text) (length text)

-- The cells of an address, or of two with a hyphen between them.
abbrev pub cells_of : List ℕ → Option CellRange
cells_of text =
    if has_hyphen text then cells_between (address_of (before_first is_hyphen text)) (address_of (after_first is_hyphen text))
    else cells_between (address_of text) (address_of text)

-- The key of a name.
abbrev pub file_of : List ℕ → Option Key
file_of text = result_ok (name_of text)

-- An option that is left out has no value. The value of another one is what its text means.
abbrev pub IsValue : {T : Type 0} → (List ℕ → Option T) → Option (Bor (List ℕ)) → Option T → Type 0
IsValue meaning None value = value ≡ None
IsValue meaning (Some text) value = IsSome value × (value ≡ meaning text.now)

-- A choice has the values of the words.
pub record IsChoiceOf (w : TraceWords) (c : Choice) : Type 0 where
  pub instructions : c.instructions ≡ w.steps
  pub from : c.from ≡ unwrap_or w.from 0
  pub to : c.to ≡ unwrap_or w.to 18446744073709551615
  pub at : IsValue address_of w.at c.at
  pub writes : IsValue cells_of w.writes c.writes
  pub reads : IsValue cells_of w.reads c.reads
  pub file : IsValue file_of w.file c.file
  pub last : c.last ≡ w.last

-- ---- values that options cannot have

abbrev pub option_text : Filter → List ℕ
option_text At = codes "--at <ADDR>"
option_text Writes = codes "--writes <RANGE>"
option_text Reads = codes "--reads <RANGE>"
option_text File = codes "--file <NAME>"

abbrev pub mistake_text : Filter → List ℕ
mistake_text At = codes "not an address of 1 to 4 hexadecimal digits"
mistake_text Writes = codes "not ADDR or ADDR-ADDR with the lower address first"
mistake_text Reads = codes "not ADDR or ADDR-ADDR with the lower address first"
mistake_text File = codes "not a name of a file on the drives A to D"

-- The usage error of an option with a text that it cannot have, worded as clap's.
abbrev pub IsBadText : Filter → List ℕ → Fault → Type 0
IsBadText filter text fault = IsUsageError (value_text text (option_text filter) (mistake_text filter)) fault

-- The option has a text that has no meaning.
abbrev pub RefusesText : {T : Type 0} → Filter → (List ℕ → Option T) → Option (Bor (List ℕ)) → Fault → Type 0
RefusesText filter meaning text fault = (t : Bor (List ℕ)) × (text ≡ Some t) × (meaning t.now ≡ None) × IsBadText filter t.now fault

abbrev pub RefusesValue : TraceWords → Fault → Type 0
RefusesValue w fault =
    RefusesText At address_of w.at fault ⊎ RefusesText Writes cells_of w.writes fault ⊎ RefusesText Reads cells_of w.reads fault
    ⊎ RefusesText File file_of w.file fault
