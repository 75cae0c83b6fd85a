-- The results and effects of functions that execute an instruction or a part of one. (This project's own.)
use Rattle.std.specs.Prelude.{ℕ, ◌≡◌, Bool, true, false, List, [], map, IfOk, OnOk, OnErr, IsTrue}
use Rattle.std.specs.declared.result.Result.{Result}
use Rattle.std.specs.declared.alloc.AllocError.{AllocError}
use Rattle.i8080.specs.declared.registers.Regs.{Regs}
use Rattle.i8080.specs.declared.outcome.Did.{Did}
use Rattle.i8080.specs.declared.outcome.Did.TheVariants as did
use Rattle.i8080.specs.Memory.{Own, Memory, Looks, bytes, is_among, look_all, write_all}
use Rattle.i8080.specs.Reading.{Reading, end_of, asked}
use Rattle.i8080.specs.End.{End, Went, Halt, Undefined}

-- The looks after a tree of reads.
abbrev pub looks_after : {E : Type 0} → Reading E → Memory → Looks
looks_after t m = look_all m.own (asked t (bytes m)) m.looks

abbrev pub did_of : End → Did
did_of (Went r writes) = did.Went
did_of Halt = did.Halt
did_of (Undefined byte) = did.Undefined byte

abbrev pub regs_after : End → Regs → Regs
regs_after (Went r writes) old = r
regs_after Halt old = old
regs_after (Undefined byte) old = old

abbrev pub own_after : End → Own → Own
own_after (Went r writes) own = write_all own writes
own_after Halt own = own
own_after (Undefined byte) own = own

abbrev pub writes_of : End → List (ℕ × ℕ)
writes_of (Went r writes) = writes
writes_of Halt = []
writes_of (Undefined byte) = []

-- A cell that these writes change is not ready.
pub record WritesUnready (ready : ℕ → Bool) (writes : List (ℕ × ℕ)) : Type 0 where
  pub cell : ℕ
  pub written : is_among cell (map (λ w. w.0) writes) ≡ true
  pub unready : ready cell ≡ false

-- The result and the effects of a call that executes a tree of reads and its end. It fails only if the end writes a
-- cell that was not ready, and only after all the reads.
pub record Executes {X : Type 0} (t : Reading End) (r : Regs) (m : Memory) (ready : ℕ → Bool) (result : Result Did X) (r' : Regs) (m' : Memory) : Type 0 where
  pub did : IfOk result (λ did. did ≡ did_of (end_of t (bytes m)))
  pub regs : OnOk result (r' ≡ regs_after (end_of t (bytes m)) r)
  pub own : OnOk result (m'.own ≡ own_after (end_of t (bytes m)) m.own)
  pub err_unready : OnErr result (WritesUnready ready (writes_of (end_of t (bytes m))))
  pub err_regs : OnErr result (r' ≡ r)
  pub err_own : OnErr result (m'.own ≡ m.own)
  pub looks : m'.looks ≡ looks_after t m
  pub beneath : m'.beneath ≡ m.beneath
  pub lender : m'.lender ≡ m.lender

-- The same where only an allocation can fail.
abbrev pub Performs : Reading End → Regs → Memory → (ℕ → Bool) → Result Did AllocError → Regs → Memory → Type 0
Performs = Executes

-- The result and the effects of a call that only reads and returns a value.
pub record Reads {E : Type 0} (t : Reading E) (m : Memory) (result : E) (m' : Memory) : Type 0 where
  pub value : result ≡ end_of t (bytes m)
  pub looks : m'.looks ≡ looks_after t m
  pub own : m'.own ≡ m.own
  pub beneath : m'.beneath ≡ m.beneath
  pub lender : m'.lender ≡ m.lender

-- Each cell that was ready is still ready.
pub record KeepsReady (old new : ℕ → Bool) : Type 0 where
  pub kept : (q : ℕ) → IsTrue (old q) → IsTrue (new q)

-- The result and the effects of a call that only writes.
pub record Writes (writes : List (ℕ × ℕ)) (m : Memory) (result : Result (Unit {0}) AllocError) (m' : Memory) : Type 0 where
  pub own : OnOk result (m'.own ≡ write_all m.own writes)
  pub err_own : OnErr result (m'.own ≡ m.own)
  pub looks : m'.looks ≡ m.looks
  pub beneath : m'.beneath ≡ m.beneath
  pub lender : m'.lender ≡ m.lender
