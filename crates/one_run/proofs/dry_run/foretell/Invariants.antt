use Rattle.std.proofs.Common.{◌≡◌, ◌++◌, IfSome, map, take}
use Rattle.one_run.specs.ChangedList.{planned, changed_by}
use Rattle.one_run.specs.DryRun.{foretold, seen}
use Rattle.one_run.proofs.dry_run.foretell.Given as goal

abbrev pub invariant-loop-entry : goal.invariant-loop-entry
invariant-loop-entry g l = record {
  unchanged : g.S.FileSystem.files l.system ≡ g.S.FileSystem.files l.fn.system;
  added : IfSome (g.S.FileSystem.files l.fn.system).bytes (λ stored.
      map seen l.list.items ≡ map seen l.fn.list.items ++ foretold stored (planned l.turn (map changed_by (take l.entry-index l.entries))));
}
