use Rattle.std.proofs.Common.{◌≡◌, ◌++◌, drop, map, string_bytes}
use Rattle.std.specs.List.{flat_map}
use Rattle.make_rules.specs.Escapes.{argument}
use Rattle.make_rules.proofs.escapes.push_arguments.Given as goal

-- The first paths are there, and the others are left.
abbrev pub invariant-loop-path : goal.invariant-loop-path
invariant-loop-path l =
    l.text.items ++ flat_map argument (map string_bytes (drop l.path-index l.paths)) ≡ l.initial.text.items ++ flat_map argument (map string_bytes l.paths)
