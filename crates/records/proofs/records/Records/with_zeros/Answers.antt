use Rattle.std.proofs.Common.{ap, ◌∙◌, arith}
use Rattle.std.specs.FinMap as finmap
use Rattle.records.specs.Records.{zeros}
use Rattle.records.proofs.ZerosLaws.{zeros_none, zeros_more}
use Rattle.records.proofs.records.Records.with_zeros.Goals as goal

pub loop-number-init : goal.loop-number-init
loop-number-init c = (omega arith, c.in_ok-records.ensures ∙ zeros_none c.args.self.now c.args.from)

pub loop-number-preserved : goal.loop-number-preserved
loop-number-preserved c = (
  omega arith,
  c.in_ok-put.ensures.ok ∙ ap (λ m. finmap.insert m c.loop-number.number zeros) c.loop-number.invariant.1 ∙ zeros_more c.args.self.now c.args.from c.loop-number.number c.loop-number.invariant.0,
)
