use Rattle.std.proofs.Common.{arith}
use Rattle.first_looks.proofs.StepLemmas.{erased_more}
use Rattle.first_looks.proofs.file_steps.erase_drives.Goals as goal

pub loop-step-preserved : goal.loop-step-preserved
loop-step-preserved c = erased_more c.args.directories.now c.loop-step.directories c.args.from c.loop-step.step-index c.step_below.result (omega arith) c.loop-step.invariant c.step_below.ensures
