use Rattle.std.proofs.Common.{rules}
use Rattle.std.proofs.lemmas.Result.{err_from_is_err_and}
use Rattle.cpmfiles.proofs.LookLaws.{new_read, within_read}
use Rattle.cpmfiles.proofs.asking.read.Goals as goal

pub returns-in_err-length : goal.returns-in_err-length
returns-in_err-length c =
    let e = err_from_is_err_and c.from_residual.result c.from_residual.ensures.1 in
    rw e.1 (record {
      answer = tt;
      looks = tt;
      extends = search rules;
      bound = within_read c.args.host.now c.args.changes.now.journal.entries c.args.key.now c.args.k _ _ (search rules);
      refused = new_read c.args.host.now c.args.changes.now.journal.entries c.args.key.now c.args.k _ _ (search rules);
      stays = search rules;
    })
