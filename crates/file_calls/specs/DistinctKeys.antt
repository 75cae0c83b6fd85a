-- That the two keys of a rename are different. (This project's own.)
use Rattle.std.specs.Prelude.{◌≢◌}
use Rattle.file_calls.specs.declared.finding.Finding.{Finding}
use Rattle.file_calls.specs.declared.finding.Finding.TheVariants as finding

-- The two keys of a rename are different; any other finding qualifies.
abbrev pub HasDistinctKeys : Finding → Type 0
HasDistinctKeys (finding.Rename old new) = old ≢ new
HasDistinctKeys other = Unit {0}
