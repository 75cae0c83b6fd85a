use Rattle.std.proofs.Common.{arith, length}
use Rattle.bdos.proofs.Runs.{reads_known}
use Rattle.bdos.proofs.cells.fetch_cells.Goals as goal

pub returns-else-not-cells_at_once-clause-reads : goal.returns-else-not-cells_at_once-clause-reads
returns-else-not-cells_at_once-clause-reads g c =
    let e = c.cells_at_once.ensures in
    reads_known (g.B.Bus.memory c.args.bus.now) c.args.at (length c.args.cells.now) c.cells_at_once.new.cells (omega arith) e.length (e.value c.if-not-cells_at_once.false) (e.unlooked c.if-not-cells_at_once.false)
