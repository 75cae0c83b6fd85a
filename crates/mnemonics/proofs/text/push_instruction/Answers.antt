use Rattle.std.proofs.Common.{refl}
use Rattle.i8080.specs.Opcodes.{decoded}
use Rattle.mnemonics.proofs.text.push_instruction.Goals as goal

pub entry-requires : goal.entry-requires
unfolding decoded
entry-requires g c = refl
