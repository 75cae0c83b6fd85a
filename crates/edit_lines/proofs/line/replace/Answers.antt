use Rattle.std.proofs.Common.{refl, rules}
use Rattle.std.proofs.lemmas.Result.{err_from_is_err_and}
use Rattle.replay.specs.declared.edit.Edit.TheVariants.{Replace}
use Rattle.edit_lines.specs.declared.line.Command.TheVariants.{Edit}
use Rattle.edit_lines.proofs.Grammar.{no_bytes}
use Rattle.edit_lines.proofs.line.replace.Goals as goal

pub returns-in_err-bytes : goal.returns-in_err-bytes
returns-in_err-bytes c =
    let h = c.in_err-bytes.ensures in
    rw (err_from_is_err_and c.from_residual.result c.from_residual.ensures.1).1 (Edit (Replace _ h.0), (refl, c.in-Some.ensures, h.1), h.2)

pub returns-in-None : goal.returns-in-None
returns-in-None c = no_bytes _ _ _ (rw c.in-None.is at c.in_ok-bytes.ensures) (search rules)
