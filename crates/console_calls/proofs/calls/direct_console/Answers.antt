use Rattle.console_calls.proofs.Carried.{along}
use Rattle.console_calls.proofs.Numbers.{sends}
use Rattle.console_calls.proofs.calls.direct_console.Goals as goal

pub returns-clause-makes : goal.returns-clause-makes
returns-clause-makes g c = along (sends _ c.args.regs.now _ c.if-regs.false) (c.direct_output.ensures c.args.script.now)
