-- The arguments of all the programs, which describe a session, the forms of arguments, and what is read of their matches. (Over
-- clap's own definitions; the words: this project's own.)
use Rattle.std.specs.Prelude.{◌≡◌, ◌≢◌, ◌≤◌, ◌⊎◌, ℕ, List, [], ◌∷◌, Bool, MatchBool, MatchOption, Option, Some, None, map, option_map, unwrap_or, codes, true}
use Rattle.std.specs.Prelude.{if◌then◌else◌, get_or, is_some}
use Rattle.std.specs.Borrow.{Bor}
use Rattle.std.specs.List.{list_any}
use Rattle.std.specs.Option.{option_or}
use Rattle.std.specs.Str.Parse.{IsNumeral, digits_value, without_leading_plus}
use Rattle.clap.specs.Words.{App, Row, Rule, Text, first_of, new_app, new_rule, one_of, with_rule}
use Rattle.clap.specs.Simple.{on_top}
use Rattle.clap.specs.declared.builder.action.ArgAction.TheVariants as action
use Rattle.clap.specs.declared.builder.value_parser.ValueParser.TheVariants as parser
use Rattle.command_words.specs.declared.words.SessionWords.{SessionWords}

-- An option with one value.
abbrev pub option_rule : Text → Rule
option_rule name = record (new_rule name) { long = Some name; value_names = 1 }

-- An option without a value.
abbrev pub flag_rule : Text → Rule
flag_rule name = record (new_rule name) { long = Some name; action = Some action.SetTrue }

-- A rule for an argument whose value is a path, and not empty.
abbrev pub as_path : Rule → Rule
as_path rule = record rule { parser = Some parser.NonEmptyString }

abbrev pub path_rule : Text → Rule
path_rule name = as_path (option_rule name)

-- An option whose value is a number within a range, with a default.
abbrev pub number_rule : Text → ℕ → ℕ → Text → Rule
number_rule name least most default = record (option_rule name) { parser = Some (parser.Unsigned least most); defaults = default ∷ [] }

-- The same without a default.
abbrev pub range_rule : Text → ℕ → ℕ → Rule
range_rule name least most = record (option_rule name) { parser = Some (parser.Unsigned least most) }

-- A command with arguments added one after the other.
abbrev pub with_rules : App → List Rule → App
with_rules app [] = app
with_rules app (rule ∷ rules) = with_rules (with_rule app rule) rules

-- ---- the arguments

-- The program, which is required, and the tail.
abbrev pub positional_rules : List Rule
positional_rules = record (as_path (new_rule (codes "PROGRAM"))) { required = true } ∷ new_rule (codes "TAIL") ∷ []

-- The folders and the disks that are read, and the script: the typed text may be empty.
abbrev pub input_rules : List Rule
input_rules =
    path_rule (codes "files") ∷ path_rule (codes "files-b") ∷ path_rule (codes "files-c") ∷ path_rule (codes "files-d")
    ∷ path_rule (codes "disk") ∷ path_rule (codes "disk-b") ∷ path_rule (codes "disk-c") ∷ path_rule (codes "disk-d")
    ∷ path_rule (codes "console") ∷ option_rule (codes "typed") ∷ []

-- The limit of steps, whose default depends on the disks.
abbrev pub limit_rule : Rule
limit_rule = range_rule (codes "limit") 0 4000000000

-- A command with the program, the tail, and what is read.
abbrev pub with_input_rules : App → App
with_input_rules app = with_rules (with_rules app positional_rules) input_rules

-- A command without arguments, with a version, whose words begin after its name.
abbrev pub plain_command : Text → App
plain_command name = on_top (λ s. record s { no_binary_name = true; has_version = true }) (new_app name)

-- ---- what is read of the matches: a row has the values of an argument

-- The text is this number in decimal digits, optionally after a plus.
abbrev pub IsDecimal : Text → ℕ → Type 0
IsDecimal text n = IsNumeral 10 (without_leading_plus text) × (n ≡ digits_value 10 (without_leading_plus text))

-- The text of the first value of an argument is a number.
abbrev pub IsNumberOf : List Row → Text → ℕ → Type 0
IsNumberOf rows id n = (text : Text) × (one_of id rows ≡ Some text) × IsDecimal text n

-- The text of the first value of an argument is no number within this range.
abbrev pub HasNoNumberWithin : List Row → Text → ℕ → ℕ → Type 0
HasNoNumberWithin rows id least most = (n : ℕ) → IsNumberOf rows id n → least ≤ n → n ≤ most → ⊥

-- The number of an option that has no default: there is none exactly if the text is no number within the range.
abbrev pub IsNumberIfAny : List Row → Text → ℕ → ℕ → Option ℕ → Type 0
IsNumberIfAny rows id least most number =
    MatchOption number (HasNoNumberWithin rows id least most) (λ n. IsNumberOf rows id n × (least ≤ n) × (n ≤ most))

-- The flag is set exactly if the first value of the argument is "true". Clap gives it that value if the flag is among the words,
-- and "false" if not.
abbrev pub IsFlagOf : List Row → Text → Bool → Type 0
IsFlagOf rows id flag = MatchBool flag (one_of id rows ≡ Some (codes "true")) (one_of id rows ≢ Some (codes "true"))

-- A limit is given.
abbrev pub has_limit : List Row → Bool
has_limit rows = is_some (first_of (codes "limit") rows)

-- The matches have no program, or a limit that is not in its range.
abbrev pub LacksSessionWords : List Row → Type 0
LacksSessionWords rows =
    (first_of (codes "PROGRAM") rows ≡ None) ⊎ ((has_limit rows ≡ true) × HasNoNumberWithin rows (codes "limit") 0 4000000000)

-- The limit if none is given: a run on a disk is not to be cut off early.
abbrev pub default_limit : List (Option (Bor Text)) → ℕ
default_limit disk = if list_any is_some disk then 4000000000 else 1000000

-- The limit that is given, or else the default.
abbrev pub IsLimitOf : List Row → List (Option (Bor Text)) → ℕ → Type 0
IsLimitOf rows disk limit = MatchBool (has_limit rows) (IsNumberOf rows (codes "limit") limit) (limit ≡ default_limit disk)

-- The folder of each drive, A to D: its own, or else its disk.
abbrev pub files_or_disks : List (Option (Bor Text)) → List (Option (Bor Text)) → List (Option (Bor Text))
files_or_disks files disks = map (λ drive. option_or (get_or files drive None) (get_or disks drive None)) (0 ∷ 1 ∷ 2 ∷ 3 ∷ [])

-- The first value of each argument, if it has one.
abbrev pub texts_of : List Row → List Text → List (Option Text)
texts_of rows = map (λ id. first_of id rows)

abbrev pub text_of : Option (Bor Text) → Option Text
text_of = option_map (λ s. s.now)

-- The words that describe a session have the values of the matches.
pub record AreSessionWordsOf (rows : List Row) (words : SessionWords) : Type 0 where
  pub program : text_of (Some words.program) ≡ first_of (codes "PROGRAM") rows
  pub tail : words.tail.now ≡ unwrap_or (first_of (codes "TAIL") rows) []
  pub files : words.files ≡ files_or_disks words.own words.disk
  pub own : map text_of words.own ≡ texts_of rows (codes "files" ∷ codes "files-b" ∷ codes "files-c" ∷ codes "files-d" ∷ [])
  pub disk : map text_of words.disk ≡ texts_of rows (codes "disk" ∷ codes "disk-b" ∷ codes "disk-c" ∷ codes "disk-d" ∷ [])
  pub console : text_of words.console ≡ first_of (codes "console") rows
  pub typed : text_of words.typed ≡ first_of (codes "typed") rows
  pub limit : IsLimitOf rows words.disk words.limit
