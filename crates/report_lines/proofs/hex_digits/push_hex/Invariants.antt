use Rattle.std.proofs.Common.{◌≡◌, length}
use Rattle.streams.specs.Pushing.{more}
use Rattle.hex.specs.Hex.{encode_lower}
use Rattle.report_lines.proofs.hex_digits.push_hex.Given as goal

-- The digits of the rest are left.
abbrev pub invariant-loop-rest : goal.invariant-loop-rest
invariant-loop-rest g l = more (g.X.Text.pushed l.text) (encode_lower l.rest) ≡ more (g.X.Text.pushed l.initial.text) (encode_lower l.bytes)

abbrev pub decreases-loop-rest : goal.decreases-loop-rest
decreases-loop-rest g l = length l.rest
