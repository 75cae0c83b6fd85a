use Rattle.std.proofs.Common.{arith}
use Rattle.i8080.specs.Registers.{onward}
use Rattle.pagemem.specs.Overlay.{own_of, looks_of}
use Rattle.pagemem.proofs.KnownLemmas.{look_seen}
use Rattle.pagemem.proofs.view.ViewBus.cells_at_once.Goals as goal

pub returns-clause-unlooked : goal.returns-clause-unlooked
returns-clause-unlooked c = λ h i below.
    let o = c.args.self.now.overlay.now in look_seen (own_of o) (looks_of o) (onward c.args.at i) (c.seen_cells.ensures.known h i (omega (arith, below, c.seen_cells.ensures.length))).seen
