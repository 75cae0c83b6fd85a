use Rattle.pagemem.proofs.KnownCells.{unlooked, unlooked_next}
use Rattle.pagemem.proofs.overlay.Overlay.known_word.Goals as goal

pub returns-clause-low : goal.returns-clause-low
returns-clause-low c = unlooked c.args.self.now c.args.a c.word.result c.word.ensures.low

pub returns-clause-high : goal.returns-clause-high
returns-clause-high c = unlooked_next c.args.self.now c.args.a c.word.result c.word.ensures.inside c.word.ensures.high
