use Rattle.std.proofs.Common.{option_copied}
use Rattle.keymaps.specs.Walks.{count_above}
use Rattle.hostfiles.specs.Changed.{is_changed_name}
use Rattle.hostfiles.proofs.KeyWalk.{Passed}
use Rattle.hostfiles.proofs.names.next_changed.Given as goal

abbrev pub invariant-loop-key : goal.invariant-loop-key
invariant-loop-key l = Passed (is_changed_name l.host l.journal.entries) (option_copied l.fn.after) l.low

abbrev pub decreases-loop-key : goal.decreases-loop-key
decreases-loop-key l = count_above l.journal.entries l.low
