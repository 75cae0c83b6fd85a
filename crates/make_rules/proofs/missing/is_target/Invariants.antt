use Rattle.std.proofs.Common.{◌≡◌, drop, map, string_bytes}
use Rattle.make_rules.specs.Files.{is_target}
use Rattle.make_rules.proofs.missing.is_target.Given as goal

-- Make does not take the path for one of the first targets.
abbrev pub invariant-loop-target : goal.invariant-loop-target
invariant-loop-target l = is_target (map string_bytes (drop l.target-index l.targets)) l.path ≡ is_target (map string_bytes l.targets) l.path
