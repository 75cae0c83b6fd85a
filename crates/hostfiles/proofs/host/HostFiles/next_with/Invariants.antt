use Rattle.std.proofs.Common.{◌+◌, option_copied}
use Rattle.keymaps.specs.Walks.{count_above}
use Rattle.hostfiles.specs.Files.{is_listed}
use Rattle.hostfiles.proofs.KeyWalk.{Passed}
use Rattle.hostfiles.proofs.host.HostFiles.next_with.Given as goal

abbrev pub invariant-loop-next : goal.invariant-loop-next
invariant-loop-next l = Passed (is_listed l.self l.changes.journal.entries) (option_copied l.fn.after) l.low

abbrev pub decreases-loop-next : goal.decreases-loop-next
decreases-loop-next l = count_above l.self l.low + count_above l.changes.journal.entries l.low
