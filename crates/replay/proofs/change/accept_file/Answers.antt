use Rattle.std.proofs.Common.{◌≡◌, subst, sym, true, false, nat_lt, length, Some, refl}
use Rattle.std.specs.Prelude.{IfErr}
use Rattle.std.specs.declared.result.Result.{Result}
use Rattle.std.proofs.lemmas.Bool.{le-ltb}
use Rattle.std.proofs.lemmas.Result.{err_from_is_err_and}
use Rattle.hostfiles.specs.Hosts.{has_room, records_in}
use Rattle.replay.specs.declared.change.Change.{Change}
use Rattle.replay.specs.declared.edit.EditError.{EditError}
use Rattle.replay.specs.Edits.{with_host_file, set_file_result}
use Rattle.replay.specs.EditAnswers.{Refuses}
use Rattle.replay.proofs.change.accept_file.Goals as goal

-- The edit is accepted: the file is not too long, and there is room for it.
pub returns-in_err-file-clause-refused : goal.returns-in_err-file-clause-refused
returns-in_err-file-clause-refused c =
    let s = c.args.session.now in
    let room : has_room s.files c.args.name ≡ true = sym (rw (c.files.ensures, c.key.ensures.key) at c.if-not-has_room.ensures) in
    let short : nat_lt 8388608 (length c.args.bytes.now) ≡ false = le-ltb 8388608 (length c.args.bytes.now) (rw c.as_slice.ensures at c.if-as_slice-gt-FILE_LIMIT.false) in
    let e = err_from_is_err_and c.from_residual.result c.from_residual.ensures.1 in
    subst (λ (r : Result Change EditError). IfErr r (Refuses (set_file_result s c.args.name c.args.bytes.now))) (sym e.1)
    (subst (Refuses (set_file_result s c.args.name c.args.bytes.now)) (sym e.2) (with_host_file s c.args.name (Some (records_in c.args.bytes.now)), rw (short, room) refl))
