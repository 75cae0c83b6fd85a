use Rattle.std.proofs.Common.{◌≡◌, ◌++◌, map, take}
use Rattle.folders.specs.ChangedBytes.{written_bytes}
use Rattle.plan.specs.Wanted.{wanted_of}
use Rattle.one_run.specs.ChangedList.{planned, changed_by}
use Rattle.one_run.proofs.planning.plan_turn.Given as goal

abbrev pub invariant-loop-entry : goal.invariant-loop-entry
invariant-loop-entry g l = record {
  unchanged : g.S.FileSystem.files l.system ≡ g.S.FileSystem.files l.fn.system;
  planned : map (wanted_of written_bytes) l.plan.deeds.items ≡ map (wanted_of written_bytes) l.fn.plan.deeds.items ++ planned l.turn (map changed_by (take l.entry-index l.entries));
}
