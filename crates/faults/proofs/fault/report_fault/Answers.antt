use Rattle.std.proofs.Common.{rules}
use Rattle.streams.proofs.WrittenPieces.{writes_or_fails}
use Rattle.faults.proofs.fault.report_fault.Goals as goal

pub returns : goal.returns
returns g c = (c.status.ensures, writes_or_fails _ _ _ c.finish.result (search rules))
