use Rattle.std.proofs.Common.{sym, ◌∙◌, arith, below_more}
use Rattle.hostfiles.specs.FileView.{view_entry}
use Rattle.hostfiles.proofs.Differences.{other_record, equal_record, same_records}
use Rattle.hostfiles.proofs.file_view.FileView.has_other_record.Goals as goal

pub returns-then-is_other_record : goal.returns-then-is_other_record
returns-then-is_other_record c =
    let view = c.args.self.now in
    other_record view.host.now view.key (view_entry view) c.args.file.now c.loop-number.number c.requires.length
    (omega arith) (sym c.is_other_record.ensures ∙ c.if-is_other_record.true)

pub loop-number-preserved : goal.loop-number-preserved
loop-number-preserved c = below_more _ _ c.loop-number.invariant (equal_record _ _ (sym c.is_other_record.ensures ∙ c.if-is_other_record.false))

pub returns : goal.returns
returns c =
    let view = c.args.self.now in
    same_records view.host.now view.key (view_entry view) c.args.file.now c.requires.length (λ k h. c.loop-number.invariant k (omega arith))
