use Rattle.std.specs.Prelude.{option_copied}
use Rattle.std.proofs.Common.{Some, sym, arith}
use Rattle.first_looks.proofs.LeastLemmas.{touch_of_none, touch_of_all, past_both, past_steps}
use Rattle.first_looks.proofs.file_steps.FileSteps.touch_of_records.Goals as goal

pub loop-number-init : goal.loop-number-init
loop-number-init c = (omega arith, touch_of_none (option_copied c.args.old) (option_copied c.args.new) (Some c.in-Some.steps.now) c.args.least)

pub returns-else-number-noted : goal.returns-else-number-noted
returns-else-number-noted c =
    let old = option_copied c.args.old in
    let new = option_copied c.args.new in
    let steps = c.in-Some.steps.now in
    touch_of_all old new (Some steps) c.args.least c.args.key.now c.args.self.now (sym c.in-Some.ensures) c.loop-number.number c.loop-number.touch c.loop-number.invariant.1
    (past_steps old new steps c.args.least c.loop-number.number c.loop-number.touch (omega (arith, c.end-noted.ensures)))

pub returns-after-loop-number : goal.returns-after-loop-number
returns-after-loop-number c =
    let old = option_copied c.args.old in
    let new = option_copied c.args.new in
    let steps = c.in-Some.steps.now in
    touch_of_all old new (Some steps) c.args.least c.args.key.now c.args.self.now (sym c.in-Some.ensures) c.loop-number.number c.loop-number.touch c.loop-number.invariant.1
    (past_both old new (Some steps) c.args.least c.loop-number.number c.loop-number.touch (omega (arith, c.longer_length-end.ensures)))
