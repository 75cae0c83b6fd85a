use Rattle.std.proofs.Common.{ap, sym, ◌∙◌, cond, get_or, slice_get, None}
use Rattle.records.proofs.Laws.{marked_at}
use Rattle.records.proofs.extent.ExtentRecords.get.Goals as goal

pub returns-then-self-at : goal.returns-then-self-at
returns-then-self-at c =
    let marks = c.self.inside.marks in
    let records = c.self.inside.records.items in
    c.nth.ensures ∙ ap (λ l. slice_get l c.args.at) c.deref.ensures.value
    ∙ sym (marked_at marks records c.args.at ∙ ap (λ b. cond b (slice_get records c.args.at) None) c.if-self-at.true)
    ∙ ap (λ l. get_or l c.args.at None) c.self.view_is

pub returns : goal.returns
returns c =
    let marks = c.self.inside.marks in
    let records = c.self.inside.records.items in
    sym (marked_at marks records c.args.at ∙ ap (λ b. cond b (slice_get records c.args.at) None) c.if-self-at.false)
    ∙ ap (λ l. get_or l c.args.at None) c.self.view_is
