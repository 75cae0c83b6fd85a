use Rattle.std.proofs.Common.{◌≡◌, take}
use Rattle.streams.specs.Pushing.{more}
use Rattle.trace_lines.specs.Texts.{escaped}
use Rattle.trace_lines.proofs.escapes.push_quoted.Given as goal

abbrev pub invariant-loop-byte : goal.invariant-loop-byte
invariant-loop-byte g l = g.X.Text.pushed l.text ≡ more (g.X.Text.pushed l.initial.text) (escaped (take l.byte-index l.bytes))
