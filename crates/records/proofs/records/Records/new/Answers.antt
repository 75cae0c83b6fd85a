use Rattle.records.specs.Extents.{record_in_extents}
use Rattle.records.proofs.KeptLemmas.{kept_none}
use Rattle.records.proofs.Laws.{own_none}
use Rattle.records.proofs.records.Records.new.Goals as goal

pub returns : goal.returns
returns c = kept_none (record_in_extents c.new.result.items) (own_none c.new.result.items c.new.ensures.items)
