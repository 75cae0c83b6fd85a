use Rattle.streams.proofs.Pushes.{next_pushed}
use Rattle.one_run.specs.ChangedList.{unplaced_line, changed_by}
use Rattle.one_run.proofs.Walking.{one_part}
use Rattle.one_run.proofs.reporting.push_unplaced.Goals as goal

pub loop-entry-preserved : goal.loop-entry-preserved
loop-entry-preserved g c =
    next_pushed _ _ _ _ _ _ c.loop-entry.invariant c.push_if_unplaced.ensures
    (one_part changed_by unplaced_line c.args.entries.now c.loop-entry.entry-index c.entry-item.result c.loop-entry-test.true c.entry-item.is)
