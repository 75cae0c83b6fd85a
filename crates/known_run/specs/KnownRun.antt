-- Instructions one after another that look at nothing new. (This project's own.)
use Rattle.std.specs.Prelude.{ℕ, zero, suc, ◌≡◌, ◌<◌, Bool, Ok}
use Rattle.i8080.specs.declared.registers.Regs.{Regs}
use Rattle.i8080.specs.declared.outcome.Did.TheVariants as did
use Rattle.i8080.specs.Memory.{Memory}
use Rattle.i8080.specs.Performs.{Performs}
use Rattle.i8080.specs.Instruction.{instruction}

-- The instruction at PC is executed and looks at nothing new. Which cells are ready does not matter, since no write is refused.
pub record GoesOn (r : Regs) (m : Memory) (r' : Regs) (m' : Memory) : Type 0 where
  pub performs : (ready : ℕ → Bool) → Performs (instruction r) r m ready (Ok did.Went) r' m'
  pub quiet : m'.looks ≡ m.looks

-- Each of n instructions is below the limit and goes on in this way, over a memory that contracts see by `memory`.
abbrev pub RunsKnown : {M : Type 0} → (M → Memory) → ℕ → ℕ → Regs → M → Regs → M → Type 0
RunsKnown memory limit zero r m r' m' = (r' ≡ r) × (memory m' ≡ memory m)
RunsKnown {M} memory limit (suc n) r m r' m' = (x : Regs) × (y : M) × RunsKnown memory limit n r m x y × (x.pc < limit) × GoesOn x (memory y) r' (memory m')
