use Rattle.std.proofs.Common.{◌≡◌, ◌-◌, ◌<◌, ◌==◌, ap, sym, ◌∙◌, cond, length, get_or, None, Some, false, true, set, arith}
use Rattle.records.specs.Extents.{records_by_marks}
use Rattle.records.proofs.Laws.{marked_more, marked_push}
use Rattle.records.proofs.extent.append.Goals as goal

pub loop-records-preserved : goal.loop-records-preserved
loop-records-preserved c =
    let marks = c.loop-records.marks in
    let before = c.loop-records.records.items in
    let last : c.len-in-loop-records.result - 1 ≡ length before = omega (arith, c.in_ok-push.ensures.len, c.loop-records.records.ok.0, c.len-in-loop-records.ensures) in
    let room : length before < length marks = omega (arith, c.loop-records.records.ok.0, c.loop-records-test.true, c.len.ensures) in
    record {
      within = omega (arith, c.in_ok-push.ensures.len);
      same = λ q. ap (λ n. get_or (records_by_marks (set marks n false) c.push.new.self.items) q None) last
          ∙ marked_more marks before c.push.new.self.items _ c.in_ok-push.ensures.items room q
          ∙ c.loop-records.invariant.same q;
    }

pub returns-clause-ok : goal.returns-clause-ok
returns-clause-ok c =
    let marks = c.loop-records.marks in
    let before = c.loop-records.records.items in
    let last : c.args.at ≡ length before = omega (arith, c.loop-records.invariant.within, c.loop-records.records.ok.0, c.loop-records-test.false, c.len.ensures) in
    let room : length before < length marks = omega (arith, c.loop-records.records.ok.0, c.loop-records.invariant.within, c.requires.index) in
    λ q. ap (λ n. get_or (records_by_marks (set marks n true) c.push-2.new.self.items) q None) last
    ∙ marked_push marks before c.push-2.new.self.items c.args.content.now c.in_ok-push-2.ensures.items room q
    ∙ ap (λ n. cond (q == n) (Some c.args.content.now) (get_or (records_by_marks marks before) q None)) (sym last)
    ∙ ap (λ o. cond (q == c.args.at) (Some c.args.content.now) o) (c.loop-records.invariant.same q)
