use Rattle.std.proofs.Common.{rules}
use Rattle.std.proofs.lemmas.Result.{err_from_is_err_and}
use Rattle.hostfiles.specs.FileView.{view_own}
use Rattle.cpmfiles.proofs.LookLaws.{new_records, within_records}
use Rattle.cpmfiles.proofs.asking.ask_records.Goals as goal

pub returns-in_err-ask_presence-clause-asks : goal.returns-in_err-ask_presence-clause-asks
returns-in_err-ask_presence-clause-asks c =
    let e = err_from_is_err_and c.from_residual.result c.from_residual.ensures.1 in
    let file = c.args.file.now in
    rw e.1 (record { answer = tt; looks = tt; extends = search rules; bound = within_records file.host.now (view_own file) file.key _ _ (search rules) })

pub returns-in_err-ask_presence-clause-refused : goal.returns-in_err-ask_presence-clause-refused
returns-in_err-ask_presence-clause-refused c =
    let e = err_from_is_err_and c.from_residual.result c.from_residual.ensures.1 in
    let file = c.args.file.now in
    rw e.1 (new_records file.host.now (view_own file) file.key _ _ c.in_err-ask_presence.ensures.refused)
