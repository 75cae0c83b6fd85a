use Rattle.std.proofs.Common.{◌≡◌, ◌+◌, take}
use Rattle.streams.specs.Pushing.{more}
use Rattle.faults.specs.Faults.{shown}
use Rattle.folders.specs.Faults.{others_text}
use Rattle.faults.proofs.message.push_others.Given as goal

abbrev pub invariant-loop-path : goal.invariant-loop-path
invariant-loop-path g l = g.X.Text.pushed l.text ≡ more (g.X.Text.pushed l.fn.text) (shown (others_text (take (l.path-index + 1) l.paths)))
