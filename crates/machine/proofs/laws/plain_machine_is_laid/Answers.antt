use Rattle.machine.proofs.PlainSteps.{plain_machine_is_laid}
use Rattle.machine.proofs.laws.plain_machine_is_laid.Goals as goal

pub returns : goal.returns
returns c = plain_machine_is_laid
