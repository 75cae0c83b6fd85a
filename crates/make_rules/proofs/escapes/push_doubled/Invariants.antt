use Rattle.std.proofs.Common.{◌≡◌, ◌++◌, drop}
use Rattle.make_rules.specs.Escapes.{doubled}
use Rattle.make_rules.proofs.escapes.push_doubled.Given as goal

-- The first bytes are there, and the others are left.
abbrev pub invariant-loop-byte : goal.invariant-loop-byte
invariant-loop-byte l = l.text.items ++ doubled (drop l.byte-index l.path) ≡ l.initial.text.items ++ doubled l.path
