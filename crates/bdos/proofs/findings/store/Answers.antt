use Rattle.std.proofs.Common.{rules, refl}
use Rattle.std.proofs.lemmas.Result.{err_from_is_err_and}
use Rattle.bdos.proofs.Chains.{after_read, goes_back, gives_up}
use Rattle.bdos.proofs.Runs.{read_at}
use Rattle.bdos.proofs.Parts.{extends_same}
use Rattle.bdos.proofs.findings.store.Goals as goal

pub returns : goal.returns
returns g c script = rw c.returned.ensures.went (after_read script _ _ _ (read_at 128 _ _ c.buffer.ensures c.fetch_cells.ensures.reads)
    (goes_back 0 c.args.desk.now.desk.spot _ _ _ c.returned.ensures.regs refl (search rules) (search rules) (search rules) (search rules) (search rules) (search rules) (search rules) (search rules) (λ j. refl)))

pub returns-in_err-ready_place : goal.returns-in_err-ready_place
returns-in_err-ready_place g c script =
    let e = err_from_is_err_and c.from_residual.result c.from_residual.ensures.1 in
    rw e.1 (after_read script _ _ _ (read_at 128 _ _ c.buffer.ensures c.fetch_cells.ensures.reads) (gives_up (search rules) (search rules) (search rules) (search rules) (search (rules, extends_same)) (search (rules, extends_same)) (search rules) (search rules) (λ j. refl)))

pub returns-in_err-write_record : goal.returns-in_err-write_record
returns-in_err-write_record g c script =
    let e = err_from_is_err_and c.from_residual-in_err-write_record.result c.from_residual-in_err-write_record.ensures.1 in
    rw e.1 (after_read script _ _ _ (read_at 128 _ _ c.buffer.ensures c.fetch_cells.ensures.reads) (gives_up (search rules) (search rules) (search rules) (search rules) (search (rules, extends_same)) (search (rules, extends_same)) (search rules) (search rules) (λ j. refl)))
