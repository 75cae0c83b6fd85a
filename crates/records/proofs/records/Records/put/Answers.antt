use Rattle.std.proofs.Common.{◌≡◌, ap, sym, ◌∙◌, cond, Some, None, Option, List, ℕ, get_or, length, arith, ◌<◌, ◌/◌, ◌%◌, ◌==◌}
use Rattle.std.proofs.Math.ListN.{get_or-eq_default}
use Rattle.std.proofs.lemmas.Result.{on_ok_weaker, on_err_weaker}
use Rattle.std.specs.FinMap as finmap
use Rattle.records.specs.Extents.{record_in_extents, record_in_extent, SameExtent, PutsRecord}
use Rattle.records.specs.Records.{Record}
use Rattle.records.proofs.KeptLemmas.{kept_put, kept_same}
use Rattle.records.proofs.Laws.{own_put, own_same, own_alike, set_read, found, missing, put_back}
use Rattle.records.proofs.records.Records.put.Goals as goal
use Rattle.records.proofs.records.Records.put.Goals.{then-number-len+in_default, else-number-len}

-- If no extent was found, none was changed.
same : (c : goal.After-set_extent) → c.if-number-len.self-inside.extents.items ≡ c.self.inside.extents.items
same c = elim c.if-number-len.branch [
  | then-number-len+in_default w ↦ ap (λ s. s.extents.items) w.self-inside-is ∙ put_back c.self.inside.extents.items (c.args.record_number / 128) w.index_mut.result.now w.index_mut.ensures.value
  | else-number-len w ↦ ap (λ s. s.extents.items) w.self-inside-is
]

none : (c : goal.After-set_extent) → get_or c.self.inside.extents.items (c.args.record_number / 128) None ≡ None
none c = elim c.if-number-len.branch [
  | then-number-len+in_default w ↦ missing c.self.inside.extents.items (c.args.record_number / 128) w.index_mut.result.now
      (omega (arith, w.if-number-len.true, c.len.ensures, c.self.inside.extents.ok.0)) w.index_mut.ensures.value w.in_default.is
  | else-number-len w ↦ get_or-eq_default c.self.inside.extents.items None (omega (arith, w.if-number-len.false, c.len.ensures, c.self.inside.extents.ok.0))
]

pub returns-in-Some-clause-ok : goal.returns-in-Some-clause-ok
returns-in-Some-clause-ok c =
    let es = c.self.inside.extents.items in
    let within : c.args.record_number / 128 < length es = omega (arith, c.if-number-len.true, c.len.ensures, c.self.inside.extents.ok.0) in
    let there = found es (c.args.record_number / 128) c.index_mut.result.now c.in-Some.extent within c.index_mut.ensures.value c.in-Some.is in
    on_ok_weaker c.put.result (λ (e : PutsRecord c.in-Some.extent (c.args.record_number % 128) c.args.content.now c.put.new.self).
    kept_put (record_in_extents es) _ c.args.record_number c.args.content.now c.requires
    (own_put es _ c.args.record_number c.put.new.self c.args.content.now (set_read es (c.args.record_number / 128) (Some c.put.new.self) None within)
    (λ i. e i ∙ ap (λ (o : Option (List (Option Record))). cond (i == c.args.record_number % 128) (Some c.args.content.now) (record_in_extent o i)) (sym there)))
    ∙ ap (λ m. finmap.insert m c.args.record_number c.args.content.now) c.self.view_is)
    c.put.ensures.ok

pub returns-in-Some-clause-err : goal.returns-in-Some-clause-err
returns-in-Some-clause-err c =
    let es = c.self.inside.extents.items in
    let within : c.args.record_number / 128 < length es = omega (arith, c.if-number-len.true, c.len.ensures, c.self.inside.extents.ok.0) in
    let there = found es (c.args.record_number / 128) c.index_mut.result.now c.in-Some.extent within c.index_mut.ensures.value c.in-Some.is in
    on_err_weaker c.put.result (λ (e : SameExtent c.in-Some.extent c.put.new.self).
    kept_same (record_in_extents es) _
    (own_same es _ (c.args.record_number / 128) c.put.new.self (set_read es (c.args.record_number / 128) (Some c.put.new.self) None within) (λ i. e i ∙ ap (λ (o : Option (List (Option Record))). record_in_extent o i) (sym there)))
    ∙ c.self.view_is)
    c.put.ensures.err

pub returns-clause-ok : goal.returns-clause-ok
returns-clause-ok c =
    let es = c.self.inside.extents.items in
    let more = c.set_extent.new.extents.items in
    on_ok_weaker c.set_extent.result (λ (e : (i : ℕ) → get_or more i None ≡ cond (i == c.args.record_number / 128) (Some c.in_ok-extent.extent) (get_or c.if-number-len.self-inside.extents.items i None)).
    kept_put (record_in_extents es) _ c.args.record_number c.args.content.now c.requires
    (own_put es more c.args.record_number c.in_ok-extent.extent c.args.content.now
    (λ i. e i ∙ ap (λ l. cond (i == c.args.record_number / 128) (Some c.in_ok-extent.extent) (get_or l i None)) (same c))
    (λ i. c.in_ok-extent.ensures i ∙ ap (λ (o : Option (List (Option Record))). cond (i == c.args.record_number % 128) (Some c.args.content.now) (record_in_extent o i)) (sym (none c))))
    ∙ ap (λ m. finmap.insert m c.args.record_number c.args.content.now) c.self.view_is)
    c.set_extent.ensures.ok

pub returns-clause-err : goal.returns-clause-err
returns-clause-err c =
    let es = c.self.inside.extents.items in
    let more = c.set_extent.new.extents.items in
    on_err_weaker c.set_extent.result (λ (e : (i : ℕ) → get_or more i None ≡ get_or c.if-number-len.self-inside.extents.items i None).
    kept_same (record_in_extents es) _ (own_alike es more (λ i. e i ∙ ap (λ l. get_or l i None) (same c)))
    ∙ c.self.view_is)
    c.set_extent.ensures.err
