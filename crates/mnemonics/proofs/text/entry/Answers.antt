use Rattle.std.proofs.Common.{refl}
use Rattle.mnemonics.proofs.Openings.{entry_at}
use Rattle.mnemonics.proofs.text.entry.Goals as goal

pub returns : goal.returns
returns c = entry_at _ _ _ c.args.opcode c.requires refl c.from.ensures c.ranges.opcode.fits
