use Rattle.std.proofs.Common.{◌≡◌, length, map}
use Rattle.std.specs.List.{concat}
use Rattle.streams.specs.Pushing.{more}
use Rattle.dependency_lines.specs.Names.{lines_of_kind, lines_of_name}
use Rattle.dependency_lines.proofs.KeyLemmas.{asked_above}
use Rattle.dependency_lines.proofs.names.push_kind.Given as goal

-- The lines of the keys above the last one are left.
abbrev pub invariant-loop-key : goal.invariant-loop-key
invariant-loop-key g l =
    more (g.X.Text.pushed l.text) (concat (map (lines_of_name l.joining l.host l.asked l.kind) (asked_above l.asked l.kind l.after)))
    ≡ more (g.X.Text.pushed l.initial.text) (lines_of_kind l.joining l.host l.asked l.kind)

abbrev pub decreases-loop-key : goal.decreases-loop-key
decreases-loop-key g l = length (asked_above l.asked l.kind l.after)
