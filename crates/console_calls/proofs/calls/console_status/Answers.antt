use Rattle.std.proofs.Common.{rules}
use Rattle.console_calls.proofs.Leaves.{status_goes}
use Rattle.console_calls.proofs.calls.console_status.Goals as goal

pub returns : goal.returns
returns g c = rw c.completed.ensures.went (status_goes c.args.script.now (search rules) c.completed.ensures.reads (search rules) c.completed.ensures.regs (search rules))
