use Rattle.std.proofs.Common.{◌≡◌}
use Rattle.keymaps.specs.Walks.{count_above}
use Rattle.disks.proofs.reports.is_read_from.Given as goal

abbrev pub invariant-loop-key : goal.invariant-loop-key
invariant-loop-key g l = g.S.FileSystem.files l.system ≡ g.S.FileSystem.files l.fn.system

abbrev pub decreases-loop-key : goal.decreases-loop-key
decreases-loop-key g l = count_above l.listing.files l.after
