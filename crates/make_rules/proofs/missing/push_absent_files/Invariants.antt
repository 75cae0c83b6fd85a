use Rattle.std.proofs.Common.{filter, length, map, string_bytes}
use Rattle.hostfiles.proofs.ChangedWalk.{keys_above}
use Rattle.make_rules.specs.Files.{absent_files, is_absent}
use Rattle.make_rules.specs.Paths.{AddsAbsent, collected}
use Rattle.make_rules.specs.Rule.{Needs}
use Rattle.make_rules.proofs.missing.push_absent_files.Given as goal

-- What adds the files with keys above the last one to what is there adds all to what was there.
abbrev pub invariant-loop-key : goal.invariant-loop-key
invariant-loop-key l = (n : Needs)
    → AddsAbsent (map string_bytes l.targets) l.drives (filter (is_absent l.host) (keys_above l.asked.has l.after)) (collected l.paths) n
    → AddsAbsent (map string_bytes l.targets) l.drives (absent_files l.host l.asked) (collected l.initial.paths) n

abbrev pub decreases-loop-key : goal.decreases-loop-key
decreases-loop-key l = length (keys_above l.asked.has l.after)
