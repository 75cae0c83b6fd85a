use Rattle.cpmrun.proofs.Unmetered.{without_steps}
use Rattle.cpmrun.proofs.command_line.command.Goals as goal

pub returns : goal.returns
returns g c = without_steps _ _ _ _ _ c.metered_command.ensures
