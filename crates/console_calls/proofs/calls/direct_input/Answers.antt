use Rattle.std.proofs.Common.{rules}
use Rattle.console_calls.proofs.Leaves.{given_none, given_byte}
use Rattle.console_calls.proofs.calls.direct_input.Goals as goal

pub returns-in_default : goal.returns-in_default
returns-in_default g c = rw c.completed.ensures.went (given_none c.args.script.now (search rules) c.completed.ensures.reads (search rules) c.completed.ensures.regs (search rules))

pub returns : goal.returns
returns g c = rw c.completed-2.ensures.went (given_byte c.args.script.now (search rules) c.completed-2.ensures.reads _ (search rules) c.completed-2.ensures.regs (search rules))
