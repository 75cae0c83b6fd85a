use Rattle.std.proofs.Common.{replicate}
use Rattle.first_looks.proofs.StepLemmas.{no_steps, all_none, nothing}
use Rattle.first_looks.proofs.file_steps.FileSteps.new.Goals as goal

pub returns-clause-steps : goal.returns-clause-steps
returns-clause-steps c = no_steps (record { has = c.new.result; lengths = c.new-2.result; records = c.new-3.result; directories = replicate 256 nothing }) c.new.ensures c.new-2.ensures c.new-3.ensures (all_none 256)
