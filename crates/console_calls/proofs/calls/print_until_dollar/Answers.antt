use Rattle.std.proofs.Common.{sym, subst, ◌∙◌, rules, arith}
use Rattle.console_calls.specs.Printing.{GrowsText}
use Rattle.console_calls.proofs.Scanning.{byte_read, looked_at, desk_on, looks_on, desk_here, looks_here, desk_end, looks_end, found_some, found_none, desk_is, grown_on}
use Rattle.console_calls.proofs.Looking.{one_more}
use Rattle.console_calls.proofs.calls.print_until_dollar.Goals as goal

pub loop-cell-preserved : goal.loop-cell-preserved
loop-cell-preserved g c =
    let i = c.loop-cell.invariant in
    let value = byte_read (g.B.Bus.memory c.args.bus.now) _ _ _ _ c.fetch-byte.ensures.reads i.own i.beneath in
    let looked = looked_at (g.B.Bus.memory c.args.bus.now) _ _ _ _ c.fetch-byte.ensures.reads i.own i.beneath in
    record {
      desk = desk_on _ 65536 c.loop-cell._cell _ _ _ _ (omega arith) value (omega arith) c.in_ok-print.ensures.ok ∙ i.desk;
      looks = looks_on _ _ _ _ 65536 c.loop-cell._cell _ _ (omega arith) value (omega arith) looked ∙ i.looks;
      extends = one_more _ _ _ _ _ i.extends looked;
      grown = subst (GrowsText c.args.desk.now.desk) (sym c.in_ok-print.ensures.ok) (grown_on _ _ _ i.grown);
      desk_looks = search rules;
      own = search rules;
      beneath = search rules;
      lender = search rules;
    }

pub returns-then-byte-eq36-clause-scans : goal.returns-then-byte-eq36-clause-scans
returns-then-byte-eq36-clause-scans g c =
    let i = c.loop-cell.invariant in
    let value = byte_read (g.B.Bus.memory c.args.bus.now) _ _ _ _ c.fetch-byte.ensures.reads i.own i.beneath in
    let looked = looked_at (g.B.Bus.memory c.args.bus.now) _ _ _ _ c.fetch-byte.ensures.reads i.own i.beneath in
    let whole = sym (desk_here _ 65536 c.loop-cell._cell _ _ c.loop-cell.desk.desk (omega arith) value c.if-byte-eq36.true) ∙ i.desk in
    record {
      reads = record {
        found = found_some _ _ _ whole;
        looks = looked ∙ sym (looks_here _ _ _ 65536 c.loop-cell._cell _ _ (omega arith) value c.if-byte-eq36.true) ∙ i.looks;
        err_looks = tt;
        err_bound = tt;
        own = search rules;
        beneath = search rules;
        lender = search rules;
      };
      printed = λ _. desk_is _ _ _ whole;
      grown = i.grown;
    }

pub returns-clause-scans : goal.returns-clause-scans
returns-clause-scans g c =
    let i = c.loop-cell.invariant in
    record {
      reads = record {
        found = found_none _ _ (sym (desk_end _ 65536 c.loop-cell._cell _ c.loop-cell.desk.desk (omega arith)) ∙ i.desk);
        looks = sym (looks_end _ _ _ 65536 c.loop-cell._cell _ (omega arith)) ∙ i.looks;
        err_looks = tt;
        err_bound = tt;
        own = i.own;
        beneath = i.beneath;
        lender = i.lender;
      };
      printed = λ no. cc;
      grown = i.grown;
    }
