use Rattle.pagemem.specs.Overlay.{own_of, looks_of}
use Rattle.pagemem.proofs.KnownLemmas.{look_seen}
use Rattle.pagemem.proofs.overlay.Overlay.learned_opcode.Goals as goal

pub returns-clause-unlooked : goal.returns-clause-unlooked
returns-clause-unlooked c some = let o = c.args.self.now in look_seen (own_of o) (looks_of o) c.args.a (o.agrees c.args.a (c.opcode.ensures.known some)).seen
