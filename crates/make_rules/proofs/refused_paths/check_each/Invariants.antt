use Rattle.std.proofs.Common.{◌≡◌, drop}
use Rattle.std.specs.List.{find, list_any}
use Rattle.make_rules.specs.RefusedPaths.{refuses}
use Rattle.make_rules.proofs.refused_paths.check_each.Given as goal

-- A rule can have the first ones.
abbrev pub invariant-loop-path : goal.invariant-loop-path
invariant-loop-path l =
    (list_any (refuses l.kind) (drop l.path-index l.paths) ≡ list_any (refuses l.kind) l.paths)
    × (find (refuses l.kind) (drop l.path-index l.paths) ≡ find (refuses l.kind) l.paths)
