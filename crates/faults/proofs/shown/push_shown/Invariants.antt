use Rattle.std.proofs.Common.{◌≡◌, take}
use Rattle.streams.specs.Pushing.{more}
use Rattle.faults.specs.Faults.{shown}
use Rattle.faults.proofs.shown.push_shown.Given as goal

abbrev pub invariant-loop-byte : goal.invariant-loop-byte
invariant-loop-byte g l = g.X.Text.pushed l.text ≡ more (g.X.Text.pushed l.fn.text) (shown (take l.byte-index l.bytes))
