use Rattle.std.proofs.Common.{sym}
use Rattle.edit_lines.proofs.Grammar.{not_sized}
use Rattle.edit_lines.proofs.line.address.Goals as goal

pub returns-in-Err : goal.returns-in-Err
returns-in-Err c = not_sized c.args.word.now _ (sym (rw c.in-Err.is at c.from_hex.ensures))
