-- The tree of each call number.
use Rattle.std.proofs.Common.{◌≡◌, ℕ, sym, ap, ◌∙◌}
use Rattle.i8080.specs.declared.registers.Regs.{Regs}
use Rattle.console_calls.specs.declared.desk.Spot.{Spot}
use Rattle.bdos.specs.declared.function.SystemFunction.{SystemFunction}
use Rattle.bdos.specs.SystemCalls.{call, call_of_system, system_function}

pub names : (n : ℕ) (r : Regs) (spot : Spot) {f g : SystemFunction} → f ≡ system_function r.c → f ≡ g → call n r spot ≡ call_of_system n g r spot
unfolding call
names n r spot e is = ap (λ x. call_of_system n x r spot) (sym e ∙ is)
