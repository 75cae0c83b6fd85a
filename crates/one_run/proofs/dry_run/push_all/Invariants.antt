use Rattle.std.proofs.Common.{◌≡◌, map, take}
use Rattle.streams.specs.Pushing.{more}
use Rattle.one_run.specs.DryRun.{seen, would_lines}
use Rattle.one_run.proofs.dry_run.push_all.Given as goal

abbrev pub invariant-loop-foretold : goal.invariant-loop-foretold
invariant-loop-foretold g l = g.X.Text.pushed l.text ≡ more (g.X.Text.pushed l.fn.text) (would_lines (map seen (take l.foretold-index l.list)))
