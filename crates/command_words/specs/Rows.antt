-- The rows of the code's tables as checks and as rules.
use Rattle.std.specs.Prelude.{ℕ, ◌&&◌, Bool, true, false, not, if◌then◌else◌, List, Option, is_some}
use Rattle.std.specs.Borrow.{Bor}
use Rattle.clap.specs.Words.{Rule}
use Rattle.command_words.specs.Clashes.{Check, names_in}
use Rattle.command_words.specs.CommandLine.{flag_rule, number_rule, option_rule, path_rule, range_rule}
use Rattle.command_words.specs.declared.clashes.Clash.{Clash}
use Rattle.command_words.specs.declared.clashes.Clash.TheVariants.{Missing}
use Rattle.command_words.specs.declared.options.Choice.{Choice}
use Rattle.command_words.specs.declared.options.Choice.TheVariants.{Path, Text, Flag, Number, NumberOr}

abbrev is_missing : Clash → Bool
is_missing (Missing option) = true
is_missing other = false

-- Two options, and what is wrong if both are given, or for a missing one if only the first is given.
abbrev pub check_of : Option (Bor (List ℕ)) × Option (Bor (List ℕ)) × Clash → Check
check_of row = record { fails = is_some row.0 && (if is_missing row.2 then not (is_some row.1) else is_some row.1); names = names_in row.2 }

abbrev pub rule_of_choice : Choice → Rule
rule_of_choice (Path name value help) = path_rule name.now
rule_of_choice (Text name value help) = option_rule name.now
rule_of_choice (Flag name help) = flag_rule name.now
rule_of_choice (Number name least most help) = range_rule name.now least most
rule_of_choice (NumberOr name least most default help) = number_rule name.now least most default.now
