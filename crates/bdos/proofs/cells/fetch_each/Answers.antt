use Rattle.std.proofs.Common.{rules, arith, ◌∙◌, length}
use Rattle.i8080.proofs.ReadyLemmas.{keeps_on}
use Rattle.console_calls.proofs.Scanning.{byte_read, looked_at}
use Rattle.bdos.proofs.Runs.{taken_on, looked_on, taken_all, looked_all}
use Rattle.bdos.proofs.cells.fetch_each.Goals as goal

pub loop-i-preserved : goal.loop-i-preserved
loop-i-preserved g c =
    let i = c.loop-i.invariant in
    let value = byte_read (g.B.Bus.memory c.args.bus.now) _ _ _ _ c.fetch.ensures.reads i.own i.beneath in
    let looked = looked_at (g.B.Bus.memory c.args.bus.now) _ _ _ _ c.fetch.ensures.reads i.own i.beneath in
    record {
      count = search rules;
      taken = taken_on _ (length c.args.cells.now) c.loop-i.i _ _ c.loop-i.cells (omega arith) (omega arith) value ∙ i.taken;
      looks = looked_on _ _ _ _ (length c.args.cells.now) c.loop-i.i _ (omega arith) looked ∙ i.looks;
      own = search rules;
      beneath = search rules;
      lender = search rules;
      kept = keeps_on _ _ _ i.kept c.fetch.ensures.kept;
    }

pub returns-clause-reads : goal.returns-clause-reads
returns-clause-reads g c =
    let i = c.loop-i.invariant in
    record {
      value = taken_all _ (length c.args.cells.now) c.loop-i.i _ c.loop-i.cells (omega arith) (omega arith) ∙ i.taken;
      looks = looked_all _ _ _ (length c.args.cells.now) c.loop-i.i _ (omega arith) ∙ i.looks;
      own = i.own;
      beneath = i.beneath;
      lender = i.lender;
    }
