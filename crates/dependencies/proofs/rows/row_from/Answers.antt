use Rattle.std.proofs.Common.{refl, arith}
use Rattle.dependencies.proofs.RowLemmas.{alone_none, alone_other, alone_past, at_some, ended, grown}
use Rattle.dependencies.proofs.rows.row_from.Goals as goal

pub loop-row-init : goal.loop-row-init
loop-row-init g c = record {
  left = at_some _ _ c.args.first c.args.step (omega (arith, c.requires.first, c.requires.end)) c.requires.there;
  begins = refl;
  low = omega arith;
  within = omega (arith, c.requires.first);
}

pub loop-row-preserved : goal.loop-row-preserved
loop-row-preserved g c =
    let i = c.loop-row.invariant in
    record {
      left = grown _ _ c.loop-row.row c.args.first c.in-Some.step c.min.result i.left (omega (arith, c.loop-row-test.true, c.requires.end))
          c.in-Some.ensures c.if-join.ensures c.min.ensures;
      begins = i.begins;
      low = omega (arith, i.low);
      within = omega (arith, c.loop-row-test.true);
    }

pub returns-in_default-2 : goal.returns-in_default-2
returns-in_default-2 g c =
    let i = c.loop-row.invariant in
    ended _ _ c.loop-row.row c.args.first i.left i.low (omega (arith, c.loop-row-test.true, c.requires.end))
    (alone_none _ _ c.loop-row.row (omega (arith, c.loop-row-test.true, c.requires.end)) c.in_default.ensures)

pub returns-in_default : goal.returns-in_default
returns-in_default g c =
    let i = c.loop-row.invariant in
    ended _ _ c.loop-row.row c.args.first i.left i.low (omega (arith, c.loop-row-test.true, c.requires.end))
    (alone_other _ _ c.loop-row.row c.in-Some.step (omega (arith, c.loop-row-test.true, c.requires.end)) c.in-Some.ensures c.if-join.ensures)

pub returns : goal.returns
returns g c =
    let i = c.loop-row.invariant in
    ended _ _ c.loop-row.row c.args.first i.left i.low (omega (arith, i.within, c.requires.end))
    (alone_past _ _ c.loop-row.row (omega (arith, c.requires.end)))
