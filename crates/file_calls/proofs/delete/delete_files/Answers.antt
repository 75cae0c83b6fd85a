use Rattle.std.proofs.Common.{rules}
use Rattle.std.proofs.lemmas.Result.{err_from_is_err_and}
use Rattle.file_calls.specs.TableView.{table_view}
use Rattle.file_calls.proofs.Deletion.{deletes, refuses}
use Rattle.file_calls.proofs.delete.delete_files.Goals as goal

pub returns : goal.returns
returns c = deletes c.args.block.now _ _ c.in_ok-delete.field-0 (search rules) (search rules) (search rules) c.delete.ensures.asks.extends c.delete.ensures.over.host c.delete.ensures.over.lender

pub returns-in_err-delete : goal.returns-in_err-delete
returns-in_err-delete c =
    let e = err_from_is_err_and c.from_residual.result c.from_residual.ensures.1 in
    let h = c.in_err-delete.ensures in
    rw e.1 (record {
      found = tt;
      own = tt;
      looks = tt;
      err_own = h.err;
      extends = h.asks.extends;
      bound = search rules;
      refused = refuses c.args.block.now (table_view c.args.table.now) (table_view c.delete.new.self) 0 (rw c.key.ensures at h.refused);
      host = h.over.host;
      lender = h.over.lender;
    })
