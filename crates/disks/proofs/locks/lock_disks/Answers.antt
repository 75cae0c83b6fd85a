use Rattle.std.proofs.Common.{Option}
use Rattle.std.specs.Borrow.{Bor}
use Rattle.std.proofs.lemmas.Result.{err_from_is_err_and}
use Rattle.std.proofs.lemmas.List.Elements.{All-get_or, All-same}
use Rattle.std.proofs.lemmas.List.Sorted.{All-permutation}
use Rattle.folders.specs.FileSystem.{Path}
use Rattle.folders.specs.declared.file_system.Id.{Id}
use Rattle.disks.specs.Given.{IsDisk}
use Rattle.disks.proofs.Folders.{disk_fails}
use Rattle.disks.proofs.locks.lock_disks.Goals as goal

pub returns-in_err-locked-clause-fault : goal.returns-in_err-locked-clause-fault
returns-in_err-locked-clause-fault g c =
    let left = err_from_is_err_and c.from_residual-in_err-locked.result c.from_residual-in_err-locked.ensures.1 in
    let Is : Option Id × Bor Path → Type 0 = λ disk. IsDisk c.args.words.now disk.1.now in
    let sorted = All-permutation Is c.in_ok-disks.disks.items c.sort_unstable_by_key.new.self.items c.sort_unstable_by_key.ensures.permutation c.in_ok-disks.ensures.disks in
    let all = All-same Is _ _ c.as_slice-folder-items.ensures.value sorted in
    rw (left.1, left.2) (disk_fails c.args.words.now _ _ (All-get_or Is c.as_slice-folder-items.result.now c.loop-folder.folder-index _ c.loop-folder-test.true all) c.in_err-locked.ensures.fault)
