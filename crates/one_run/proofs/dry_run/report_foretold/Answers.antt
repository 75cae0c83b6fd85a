use Rattle.std.proofs.Common.{rules}
use Rattle.streams.proofs.WrittenPieces.{writes_or_fails}
use Rattle.one_run.proofs.dry_run.report_foretold.Goals as goal

pub returns : goal.returns
returns g c = writes_or_fails _ _ _ c.finish.result (search rules)
