use Rattle.std.proofs.Common.{rules, refl}
use Rattle.console_calls.proofs.Leaves.{input_ends, input_goes}
use Rattle.console_calls.proofs.calls.console_input.Goals as goal

pub returns-in_default-clause-makes : goal.returns-in_default-clause-makes
returns-in_default-clause-makes g c = input_ends c.args.script.now (search rules) (search rules) refl refl (search rules)

pub returns-clause-makes : goal.returns-clause-makes
returns-clause-makes g c = rw c.completed.ensures.went (input_goes c.args.script.now (search rules) c.completed.ensures.reads _ (search rules) c.completed.ensures.regs (search rules))
