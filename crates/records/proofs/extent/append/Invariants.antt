use Rattle.std.proofs.Common.{◌≤◌, ◌-◌, vec_len}
use Rattle.records.specs.Extents.{SameExtent, records_by_marks}
use Rattle.records.proofs.extent.append.Given as goal

abbrev pub invariant-loop-records : goal.invariant-loop-records
invariant-loop-records l = record {
  within : vec_len l.records ≤ l.at;
  same : SameExtent (records_by_marks l.initial.marks l.initial.records.items) (records_by_marks l.marks l.records.items);
}

abbrev pub decreases-loop-records : goal.decreases-loop-records
decreases-loop-records l = l.at - vec_len l.records
