use Rattle.records.proofs.Laws.{marked_none}
use Rattle.records.proofs.extent.ExtentRecords.new.Goals as goal

pub returns : goal.returns
returns c = marked_none _ c.new.result.items c.new.ensures.items
