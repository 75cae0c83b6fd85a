use Rattle.std.proofs.Common.{◌≡◌, ◌<◌, ℕ, get_or, unwrap_or}
use Rattle.records.specs.Records.{zeros}
use Rattle.hostfiles.specs.FileView.{view_record}
use Rattle.hostfiles.proofs.file_view.FileView.has_other_record.Given as goal

abbrev pub invariant-loop-number : goal.invariant-loop-number
invariant-loop-number l = (k : ℕ) → k < l.number → unwrap_or (view_record l.self k) zeros ≡ get_or l.file k zeros
