use Rattle.std.proofs.Common.{◌≡◌, ◌≤◌, ◌++◌, drop}
use Rattle.make_rules.specs.Escapes.{escaped_from, escaped}
use Rattle.make_rules.proofs.escapes.push_make_path.Given as goal

-- The first bytes are escaped, and the others are left.
abbrev pub invariant-loop-byte : goal.invariant-loop-byte
invariant-loop-byte l = record {
  left : l.text.items ++ escaped_from l.slashes (drop l.byte-index l.path) ≡ l.initial.text.items ++ escaped l.path;
  few : l.slashes ≤ l.byte-index;
}
