use Rattle.std.proofs.Common.{◌≡◌, ◌++◌, drop, map, string_bytes}
use Rattle.folders.specs.ChangedBytes.{written_bytes}
use Rattle.plan.specs.Wanted.{wanted_of}
use Rattle.cpmrun.specs.Reports.{put_paths}
use Rattle.cpmrun.proofs.reports.push_paths.Given as goal

-- The paths of the first deeds are there, and those of the others are left.
abbrev pub invariant-loop-deed : goal.invariant-loop-deed
invariant-loop-deed l = map string_bytes l.paths.items ++ put_paths (map (wanted_of written_bytes) (drop l.deed-index l.deeds))
    ≡ map string_bytes l.initial.paths.items ++ put_paths (map (wanted_of written_bytes) l.deeds)
