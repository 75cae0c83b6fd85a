use Rattle.std.proofs.Common.{◌∙◌, sym}
use Rattle.trace_command.proofs.Addresses.{address_parsed}
use Rattle.trace_command.proofs.choice.address_of.Goals as goal

pub returns : goal.returns
returns c = c.ok.ensures.value ∙ address_parsed c.args.text.now c.from_str_radix.result (sym c.if-not-is_address.ensures) c.from_str_radix.ensures.value
