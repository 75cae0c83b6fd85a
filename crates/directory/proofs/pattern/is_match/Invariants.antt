use Rattle.std.proofs.Common.{◌≡◌, drop}
use Rattle.directory.specs.Entries.{fits_name}
use Rattle.directory.proofs.pattern.is_match.Given as goal

abbrev pub invariant-loop-i : goal.invariant-loop-i
invariant-loop-i l = fits_name (drop l.i l.pattern) (drop l.i l.key) ≡ fits_name (drop 1 l.pattern) (drop 1 l.key)
