use Rattle.pagemem.proofs.KnownCells.{valued, unlooked}
use Rattle.pagemem.proofs.overlay.Overlay.known.Goals as goal

pub returns-clause-value : goal.returns-clause-value
returns-clause-value c = valued c.args.self.now c.args.a c.get.result c.get.ensures.known c.get.ensures.byte

pub returns-clause-unlooked : goal.returns-clause-unlooked
returns-clause-unlooked c = unlooked c.args.self.now c.args.a c.get.result c.get.ensures.known
