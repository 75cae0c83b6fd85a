use Rattle.std.proofs.Common.{◌≡◌, length}
use Rattle.std.specs.List.{All}
use Rattle.disks.specs.Given.{IsDisk, given_count}
use Rattle.disks.proofs.locks.disks_of.Given as goal

abbrev pub invariant-loop-at : goal.invariant-loop-at
invariant-loop-at g l = record {
  files : g.S.FileSystem.files l.system ≡ g.S.FileSystem.files l.fn.system;
  disks : All (λ disk. IsDisk l.words disk.1.now) l.disks.items;
  all : length l.disks.items ≡ given_count l.words l.at;
}
