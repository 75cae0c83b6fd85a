use Rattle.std.proofs.Common.{◌≡◌, flat_map, take}
use Rattle.report_lines.specs.FirstLines.{byte_text}
use Rattle.streams.specs.Pushing.{more}
use Rattle.trace_lines.proofs.step_lines.push_digits.Given as goal

abbrev pub invariant-loop-byte : goal.invariant-loop-byte
invariant-loop-byte g l = g.X.Text.pushed l.text ≡ more (g.X.Text.pushed l.initial.text) (flat_map byte_text (take l.byte-index l.bytes))
