use Rattle.std.proofs.Common.{◌∙◌, map}
use Rattle.std.proofs.lemmas.Result.{err_from_is_err_and}
use Rattle.folders.proofs.FilesLemmas.{keeps_err, same_files}
use Rattle.folders.specs.ChangedBytes.{written_bytes}
use Rattle.plan.specs.Wanted.{wanted_of}
use Rattle.one_run.specs.ChangedList.{planned_for, changed_by}
use Rattle.one_run.proofs.Walking.{next_part}
use Rattle.one_run.proofs.planning.plan_turn.Goals as goal

pub returns-in_err-plan_one-clause-unchanged : goal.returns-in_err-plan_one-clause-unchanged
returns-in_err-plan_one-clause-unchanged g c =
    let left = err_from_is_err_and c.from_residual.result c.from_residual.ensures.1 in
    rw (left.1, left.2) (keeps_err c.loop-entry.invariant.unchanged c.in_err-plan_one.ensures.unchanged)

pub loop-entry-preserved : goal.loop-entry-preserved
loop-entry-preserved g c = record {
  unchanged = same_files c.in_ok-plan_one.ensures.unchanged ∙ c.loop-entry.invariant.unchanged;
  planned = next_part changed_by (planned_for c.args.turn) c.args.entries.now c.loop-entry.entry-index c.entry-item.result (map (wanted_of written_bytes) c.args.plan.now.deeds.items)
      (map (wanted_of written_bytes) c.loop-entry.plan.deeds.items) (map (wanted_of written_bytes) c.plan_one.new.plan.deeds.items) c.loop-entry-test.true c.entry-item.is
      c.loop-entry.invariant.planned c.in_ok-plan_one.ensures.planned;
}
