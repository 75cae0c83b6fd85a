use Rattle.std.proofs.Common.{◌≡◌, map, take, string_bytes}
use Rattle.std.specs.List.{flat_map}
use Rattle.streams.specs.Pushing.{more}
use Rattle.one_run.specs.StopLines.{left_line}
use Rattle.one_run.proofs.reporting.push_left.Given as goal

abbrev pub invariant-loop-path : goal.invariant-loop-path
invariant-loop-path g l = g.X.Text.pushed l.text ≡ more (g.X.Text.pushed l.fn.text) (flat_map left_line (map string_bytes (take l.path-index l.named)))
