-- What an attempt over a sure memory comes to.
use Rattle.std.proofs.Common.{ℕ, Bool, true, refl}
use Rattle.std.specs.declared.result.Result.{Result}
use Rattle.std.specs.declared.alloc.AllocError.{AllocError}
use Rattle.i8080.specs.declared.registers.Regs.{Regs}
use Rattle.i8080.specs.declared.outcome.Did.{Did}
use Rattle.i8080.specs.Memory.{Memory}
use Rattle.i8080.specs.Reading.{Reading}
use Rattle.i8080.specs.End.{End}
use Rattle.i8080.specs.Performs.{Performs}
use Rattle.i8080.specs.Attempts.{Attempts}

-- It performs the instruction.
pub sure_performs : (t : Reading End) (r : Regs) (m : Memory) (ready : ℕ → Bool) (result : Result Did AllocError) (r' : Regs) (m' : Memory) → Attempts true t r m ready result r' m' → Performs t r m ready result r' m'
sure_performs t r m ready result r' m' a = a.sure refl
