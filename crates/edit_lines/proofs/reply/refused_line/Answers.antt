use Rattle.std.proofs.Common.{refl}
use Rattle.std.proofs.lemmas.Fmt.{decimal_digit}
use Rattle.edit_lines.proofs.reply.refused_line.Goals as goal

pub returns : goal.returns
returns c = rw (decimal_digit c.args.number c.requires) refl
