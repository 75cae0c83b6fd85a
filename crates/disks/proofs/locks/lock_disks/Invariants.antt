use Rattle.std.proofs.Common.{◌≡◌, length}
use Rattle.disks.proofs.locks.lock_disks.Given as goal

abbrev pub invariant-loop-folder : goal.invariant-loop-folder
invariant-loop-folder g l = record {
  files : g.S.FileSystem.files l.system ≡ g.S.FileSystem.files l.fn.system;
  locks : length l.locks.items ≡ l.folder-index;
  err : g.E.Writer.output l.err ≡ g.E.Writer.output l.fn.err;
}
