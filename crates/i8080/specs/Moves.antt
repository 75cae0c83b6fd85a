-- The result and the effects of functions that execute an instruction, are given PC apart from the other registers, and return where the
-- next instruction is. What these registers say of PC does not matter, before and after the call. (This project's own.)
use Rattle.std.specs.Prelude.{ℕ, Bool, Ok, Err}
use Rattle.std.specs.declared.result.Result.{Result}
use Rattle.i8080.specs.declared.registers.Regs.{Regs}
use Rattle.i8080.specs.declared.outcome.Did.{Did}
use Rattle.i8080.specs.declared.outcome.Did.TheVariants as did
use Rattle.i8080.specs.declared.opcode.Op.{Op}
use Rattle.i8080.specs.Memory.{Memory}
use Rattle.i8080.specs.Attempts.{Tries, TriesByte}

-- The registers with this PC.
abbrev pub with_pc : ℕ → Regs → Regs
with_pc pc r = record r { pc = pc }

-- How the call ended, and where the next instruction is: the same one if the memory refused.
abbrev pub did_next : {X : Type 0} → Result ℕ X → Result Did X
did_next (Ok next) = Ok did.Went
did_next (Err x) = Err x

abbrev pub pc_after : {X : Type 0} → ℕ → Result ℕ X → ℕ
pc_after pc (Ok next) = next
pc_after pc (Err x) = pc

-- The instruction is executed, unless the memory refuses.
pub record Moves {X : Type 0} (sure : Bool) (op : Op) (pc : ℕ) (r : Regs) (m : Memory) (ready : ℕ → Bool) (result : Result ℕ X) (r' : Regs) (m' : Memory) : Type 0 where
  pub tries : Tries sure op (with_pc pc r) m ready (did_next result) (with_pc (pc_after pc result) r') m'

-- The same for the instruction whose first byte was read.
abbrev pub MovesByte : {X : Type 0} → Bool → ℕ → ℕ → Regs → Memory → (ℕ → Bool) → Result ℕ X → Regs → Memory → Type 0
MovesByte sure byte pc r m ready result r' m' = TriesByte sure byte (with_pc pc r) m ready (did_next result) (with_pc (pc_after pc result) r') m'
