use Rattle.std.proofs.Common.{◌≡◌}
use Rattle.std.specs.List.{All}
use Rattle.disks.specs.Given.{IsGiven}
use Rattle.disks.proofs.clashes.same_folders.Given as goal

abbrev pub invariant-loop-at : goal.invariant-loop-at
invariant-loop-at g l = (g.S.FileSystem.files l.system ≡ g.S.FileSystem.files l.fn.system)
    × All (λ f. IsGiven l.words 8 f.option.now) l.found.items
