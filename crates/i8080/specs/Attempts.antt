-- The results and effects of functions that execute an instruction, or a part of one, over a memory that may refuse a read or a
-- write. (This project's own.)
use Rattle.std.specs.Prelude.{ℕ, ◌≡◌, ◌≢◌, ◌<◌, Bool, true, false, IsTrue, List, IfOk, OnOk, OnErr}
use Rattle.std.specs.declared.result.Result.{Result}
use Rattle.i8080.specs.declared.registers.Regs.{Regs}
use Rattle.i8080.specs.declared.outcome.Did.{Did}
use Rattle.i8080.specs.declared.opcode.Op.{Op}
use Rattle.i8080.specs.declared.access.TheConstants.{HLT}
use Rattle.i8080.specs.Memory as memory
use Rattle.i8080.specs.Memory.{bytes, write_all}
use Rattle.i8080.specs.Reading.{Reading, end_of}
use Rattle.i8080.specs.End.{End}
use Rattle.i8080.specs.Opcodes.{decoded}
use Rattle.i8080.specs.Registers.{onward}
use Rattle.i8080.specs.Instruction.{operation, decided}
use Rattle.i8080.specs.Performs.{looks_after, did_of, regs_after, own_after, Executes}

-- An opcode is kept for a cell: HLT says that none is, so a cell with the byte 76H never has one.
abbrev pub IsKept : ℕ → Type 0
IsKept opcode = opcode ≢ HLT

-- A read of any of this many cells, starting with `a`, is never refused; the cell after 0FFFFH is 0000H.
abbrev pub AreReadable : (ℕ → Bool) → ℕ → ℕ → Type 0
AreReadable readable a count = (i : ℕ) → i < count → IsTrue (readable (onward a i))

-- The result and the effects of a call that executes a tree of reads and its end over a memory that may refuse any read or write and
-- notes no look: on `Ok` those of the instruction, which looked at nothing new; on `Err` nothing changed.
pub record Guesses {X : Type 0} (t : Reading End) (r : Regs) (m : memory.Memory) (result : Result Did X) (r' : Regs) (m' : memory.Memory) : Type 0 where
  pub did : IfOk result (λ did. did ≡ did_of (end_of t (bytes m)))
  pub regs : OnOk result (r' ≡ regs_after (end_of t (bytes m)) r)
  pub own : OnOk result (m'.own ≡ own_after (end_of t (bytes m)) m.own)
  pub unlooked : OnOk result (looks_after t m ≡ m.looks)
  pub err_regs : OnErr result (r' ≡ r)
  pub err_own : OnErr result (m'.own ≡ m.own)
  pub looks : m'.looks ≡ m.looks
  pub beneath : m'.beneath ≡ m.beneath
  pub lender : m'.lender ≡ m.lender

-- The result and the effects of such a call over either kind of memory: one that is sure refuses only a write to a cell that was not
-- ready.
pub record Attempts {X : Type 0} (is_sure : Bool) (t : Reading End) (r : Regs) (m : memory.Memory) (ready : ℕ → Bool) (result : Result Did X) (r' : Regs) (m' : memory.Memory) : Type 0 where
  pub sure : is_sure ≡ true → Executes t r m ready result r' m'
  pub unsure : is_sure ≡ false → Guesses t r m result r' m'

-- The result and the effects of a call that only reads and returns a value, unless the memory refuses a read.
pub record MayRead {X : Type 0} {E : Type 0} (sure : Bool) (t : Reading E) (m : memory.Memory) (result : Result E X) (m' : memory.Memory) : Type 0 where
  pub value : IfOk result (λ e. e ≡ end_of t (bytes m))
  pub looks : OnOk result (m'.looks ≡ looks_after t m)
  pub refused : OnErr result (sure ≡ false)
  pub quiet : sure ≡ false → m'.looks ≡ m.looks
  pub own : m'.own ≡ m.own
  pub beneath : m'.beneath ≡ m.beneath
  pub lender : m'.lender ≡ m.lender

-- The result and the effects of a call that only writes, unless the memory refuses a write.
pub record MayWrite {X : Type 0} (writes : List (ℕ × ℕ)) (m : memory.Memory) (result : Result (Unit {0}) X) (m' : memory.Memory) : Type 0 where
  pub own : OnOk result (m'.own ≡ write_all m.own writes)
  pub err_own : OnErr result (m'.own ≡ m.own)
  pub looks : m'.looks ≡ m.looks
  pub beneath : m'.beneath ≡ m.beneath
  pub lender : m'.lender ≡ m.lender

-- The result and the effects of executing an instruction, unless the memory refuses.
pub record Tries {X : Type 0} (sure : Bool) (op : Op) (r : Regs) (m : memory.Memory) (ready : ℕ → Bool) (result : Result Did X) (r' : Regs) (m' : memory.Memory) : Type 0 where
  pub attempts : Attempts sure (operation op r) r m ready result r' m'

-- The same for the instruction whose first byte was read.
abbrev pub TriesByte : {X : Type 0} → Bool → ℕ → Regs → memory.Memory → (ℕ → Bool) → Result Did X → Regs → memory.Memory → Type 0
TriesByte sure byte r m ready result r' m' = Attempts sure (decided byte (decoded byte) r) r m ready result r' m'
