use Rattle.std.proofs.Common.{◌≡◌, drop, map}
use Rattle.command_words.specs.Clashes.{first_failed}
use Rattle.command_words.specs.Rows.{check_of}
use Rattle.command_words.proofs.clashes.first_failed.Given as goal

abbrev pub invariant-loop-one : goal.invariant-loop-one
invariant-loop-one l =
    first_failed (map check_of (drop l.one-index l.checks)) ≡ first_failed (map check_of l.checks)
