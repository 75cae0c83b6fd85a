use Rattle.std.proofs.Common.{◌≡◌}
use Rattle.keymaps.specs.Walks.{count_above}
use Rattle.folders.proofs.ReadLemmas.{SetUpTo, WantedOf}
use Rattle.folders.proofs.reading.read_listed.Given as goal

abbrev pub invariant-loop-key : goal.invariant-loop-key
invariant-loop-key g l =
    (g.S.FileSystem.files l.system ≡ g.S.FileSystem.files l.fn.system)
    × SetUpTo (WantedOf (g.S.FileSystem.files l.fn.system).bytes l.folder l.listing.files) l.listing.files l.fn.files l.after l.files

abbrev pub decreases-loop-key : goal.decreases-loop-key
decreases-loop-key g l = count_above l.listing.files l.after
