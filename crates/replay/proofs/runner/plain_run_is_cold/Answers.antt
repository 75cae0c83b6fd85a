use Rattle.machine.proofs.PlainSteps.{plain_machine_is_laid}
use Rattle.replay.proofs.runner.plain_run_is_cold.Goals as goal

pub returns : goal.returns
returns c = plain_machine_is_laid.runs
