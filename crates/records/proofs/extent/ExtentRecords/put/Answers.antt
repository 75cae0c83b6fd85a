use Rattle.std.proofs.Common.{◌<◌, ap, ◌∙◌, arith, cond, length, ◌==◌, Some, get_or, None}
use Rattle.records.proofs.Laws.{marked_set}
use Rattle.records.proofs.extent.ExtentRecords.put.Goals as goal

pub returns-then-at-len-clause-ok : goal.returns-then-at-len-clause-ok
returns-then-at-len-clause-ok c =
    let there : c.args.at < length c.self.inside.records.items = omega (arith, c.if-at-len.true, c.len.ensures, c.self.inside.records.ok.0) in
    let room : c.args.at < length c.self.inside.marks = omega (arith, c.self.told, c.requires) in
    λ q. marked_set c.self.inside.marks c.self.inside.records.items c.args.at c.args.content.now there room q
    ∙ ap (λ p. cond (q == c.args.at) (Some c.args.content.now) (get_or p q None)) c.self.view_is
