use Rattle.std.proofs.Common.{◌≡◌}
use Rattle.std.specs.List.{find}
use Rattle.directory.specs.Entries.{matches}
use Rattle.directory.specs.Parts.{entries_above}
use Rattle.directory.proofs.search.first_above.Given as goal

abbrev pub invariant-loop-next : goal.invariant-loop-next
invariant-loop-next g l =
    find (matches l.pattern l.ex) (entries_above l.after (g.T.DirectoryFiles.files l.files)) ≡ find (matches l.pattern l.ex) (entries_above l.fn.low (g.T.DirectoryFiles.files l.files))

abbrev pub decreases-loop-next : goal.decreases-loop-next
decreases-loop-next g l = g.T.DirectoryFiles.left l.files l.after
