use Rattle.std.proofs.Common.{◌≡◌, ◌++◌, length, map}
use Rattle.hostfiles.proofs.ChangedWalk.{keys_above}
use Rattle.hostfiles.specs.Changed.{changed_names}
use Rattle.hostfiles.specs.Files.{files}
use Rattle.one_run.specs.ChangedList.{changed_at, changed_list, changed_by}
use Rattle.one_run.proofs.changed.changed_entries.Given as goal

-- The files with names up to the last one are in the list, and those with names above it are left.
abbrev pub invariant-loop-changed : goal.invariant-loop-changed
invariant-loop-changed l =
    let host = l.host in
    let own = l.journal.entries in
    map changed_by l.entries.items ++ map (changed_at l.places host (files host own)) (keys_above (changed_names host own) l.after)
    ≡ changed_list l.places host (files host own)

abbrev pub decreases-loop-changed : goal.decreases-loop-changed
decreases-loop-changed l = length (keys_above (changed_names l.host l.journal.entries) l.after)
