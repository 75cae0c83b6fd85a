use Rattle.std.proofs.Common.{◌≤◌, ◌+◌}
use Rattle.std.specs.Option.{option_map_or}
use Rattle.keymaps.specs.Walks.{count_above}
use Rattle.hostfiles.proofs.DeleteLemmas.{CountedTo, DeletedTo}
use Rattle.hostfiles.proofs.directory_view.delete_matches.Given as goal

abbrev pub invariant-loop-next : goal.invariant-loop-next
invariant-loop-next l =
    (l.count + count_above l.host l.after + count_above l.journal.entries l.after ≤ l.most)
    × CountedTo l.host l.journal.entries l.pattern l.after l.count
    × DeletedTo l.host l.journal.entries l.pattern l.after (option_map_or (λ j. j.entries) l.left l.journal.entries)

abbrev pub decreases-loop-next : goal.decreases-loop-next
decreases-loop-next l = count_above l.host l.after + count_above l.journal.entries l.after
