use Rattle.hostfiles.proofs.EndLemmas.{ends_start, ends_made, ends_deleted, ends_wrote, ends_renamed}
use Rattle.hostfiles.proofs.laid.no_record_past_end.Goals as goal

pub returns : goal.returns
returns c = λ host. record {
  start = ends_start host;
  made_one = ends_made host;
  deleted_one = ends_deleted host;
  written_one = ends_wrote host;
  renamed_one = ends_renamed host;
}
