use Rattle.std.proofs.Common.{ap, ◌∙◌, arith, slice_set, get_or, rules, ◌≡◌}
use Rattle.std.specs.Char.{to_ascii_uppercase}
use Rattle.filenames.proofs.FieldLemmas.{written_more}
use Rattle.filenames.proofs.field.copy_uppercase.Goals as goal

pub loop-i-preserved : goal.loop-i-preserved
loop-i-preserved c =
    let raised : c.to_ascii_uppercase.result ≡ to_ascii_uppercase (get_or c.args.text.now c.loop-i.i 0) = search rules in
    ap (λ b. slice_set c.loop-i.field c.loop-i.i b) raised
    ∙ ap (λ f. slice_set f c.loop-i.i (to_ascii_uppercase (get_or c.args.text.now c.loop-i.i 0))) c.loop-i.invariant
    ∙ written_more to_ascii_uppercase c.args.text.now c.args.field.now c.loop-i.i (omega arith) (omega arith)
