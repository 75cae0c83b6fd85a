-- What an attempt comes to over a memory of which reads are no looks.
use Rattle.std.proofs.Common.{◌≡◌, ◌<◌, ◌+◌, ℕ, zero, suc, Bool, false, Option, Some, Ok, Err, refl, sym, subst, ap, ◌∙◌, add-one, arith}
use Rattle.std.specs.Borrow.{GName}
use Rattle.std.specs.declared.result.Result.{Result}
use Rattle.i8080.specs.declared.registers.Regs.{Regs}
use Rattle.i8080.specs.declared.outcome.Did.TheVariants as did
use Rattle.i8080.specs.declared.opcode.Op.{Op}
use Rattle.i8080.specs.declared.opcode.Op.TheVariants.{Hlt}
use Rattle.i8080.specs.Memory.{Own, Looks, Memory, bytes, look, look_all}
use Rattle.i8080.specs.Reading.{Reading, end_of, asked}
use Rattle.i8080.specs.End.{End}
use Rattle.i8080.specs.Instruction.{instruction, decided}
use Rattle.i8080.specs.Opcodes.{decoded, opcode_of}
use Rattle.i8080.specs.Operands.{byte_count}
use Rattle.i8080.proofs.Decoding.{decoded_some}
use Rattle.i8080.specs.Performs.{did_of}
use Rattle.i8080.specs.Attempts.{AreReadable, Guesses, IsKept, TriesByte}
use Rattle.i8080.specs.Moves.{Moves, MovesByte}
use Rattle.known_run.specs.KnownRun.{GoesOn, RunsKnown}

-- Two memories with the same parts are one.
pub same_parts : (m m' : Memory) → m'.own ≡ m.own → m'.beneath ≡ m.beneath → m'.looks ≡ m.looks → m'.lender ≡ m.lender → m' ≡ m
same_parts m m' o b k l =
    let made : Own → (ℕ → ℕ) → Looks → Option GName → Memory = λ o b k l. record { own = o; beneath = b; looks = k; lender = l } in
    ap (λ x. made x m'.beneath m'.looks m'.lender) o ∙ ap (λ x. made m.own x m'.looks m'.lender) b ∙ ap (λ x. made m.own m.beneath x m'.lender) k ∙ ap (λ x. made m.own m.beneath m.looks x) l

pub goes_on : {X : Type 0} (r : Regs) (m : Memory) (r' : Regs) (m' : Memory) → Guesses {X = X} (instruction r) r m (Ok did.Went) r' m' → GoesOn r m r' m'
goes_on r m r' m' g = record {
  performs = λ any. record { did = g.did; regs = g.regs; own = g.own; err_unready = tt; err_regs = tt; err_own = tt; looks = g.looks ∙ sym g.unlooked; beneath = g.beneath; lender = g.lender };
  quiet = g.looks;
}

-- A refusal changes nothing.
pub same_after_refusal : {X : Type 0} (t : Reading End) (r : Regs) (m : Memory) (x : X) (r' : Regs) (m' : Memory) → Guesses t r m (Err x) r' m' → (r' ≡ r) × (m' ≡ m)
same_after_refusal t r m x r' m' g = (g.err_regs, same_parts m m' g.err_own g.beneath g.looks g.lender)

module _ {M : Type 0} (memory : M → Memory) (limit n : ℕ) (r : Regs) (m : M) (x : Regs) (y : M) (r' : Regs) (m' : M) where
  -- One more instruction.
  pub runs_one_more : RunsKnown memory limit n r m x y → x.pc < limit → GoesOn x (memory y) r' (memory m') → RunsKnown memory limit (n + 1) r m r' m'
  runs_one_more ran low goes = subst (λ (k : ℕ). RunsKnown memory limit k r m r' m') (sym (add-one n)) (x, y, ran, low, goes)

-- The run ends where nothing has changed.
pub runs_no_more : {M : Type 0} (memory : M → Memory) (limit n : ℕ) (r : Regs) (m : M) (x : Regs) (y : M) (r' : Regs) (m' : M) → RunsKnown memory limit n r m x y → r' ≡ x → memory m' ≡ memory y → RunsKnown memory limit n r m r' m'
runs_no_more memory limit zero r m x y r' m' ran e f = (e ∙ ran.0, f ∙ ran.1)
runs_no_more memory limit (suc n) r m x y r' m' ran e f =
    (ran.0, ran.1, ran.2, ran.3, subst (λ (q : Memory). GoesOn ran.0 (memory ran.1) r' q) (sym f) (subst (λ (q : Regs). GoesOn ran.0 (memory ran.1) q (memory y)) (sym e) ran.4))

-- One run after another is a run.
pub runs_on : {M : Type 0} (memory : M → Memory) (limit n k : ℕ) (r : Regs) (m : M) (x : Regs) (y : M) (r' : Regs) (m' : M) → RunsKnown memory limit n r m x y → RunsKnown memory limit k x y r' m' → RunsKnown memory limit (n + k) r m r' m'
runs_on memory limit n zero r m x y r' m' ran on = subst (λ (j : ℕ). RunsKnown memory limit j r m r' m') (let e : n ≡ n + 0 = omega arith in e) (runs_no_more memory limit n r m x y r' m' ran on.0 on.1)
runs_on memory limit n (suc k) r m x y r' m' ran on =
    let longer : RunsKnown memory limit (suc (n + k)) r m r' m' = (on.0, on.1, runs_on memory limit n k r m x y on.0 on.1 ran on.2, on.3, on.4) in
    subst (λ (j : ℕ). RunsKnown memory limit j r m r' m') (let e : suc (n + k) ≡ n + suc k = omega arith in e) longer

-- ---- an instruction, by its opcode

-- The instruction of the opcode at PC is the instruction at PC.
module _ {X : Type 0} (r : Regs) (m : Memory) (r' : Regs) (m' : Memory) (quiet : look m.own m.looks r.pc ≡ m.looks) where
  pub at_pc : Guesses {X = X} (decided (bytes m r.pc) (decoded (bytes m r.pc)) r) r m (Ok did.Went) r' m' → Guesses {X = X} (instruction r) r m (Ok did.Went) r' m'
  unfolding instruction
  at_pc g = record {
    did = g.did;
    regs = g.regs;
    own = g.own;
    unlooked = ap (look_all m.own (asked (decided (bytes m r.pc) (decoded (bytes m r.pc)) r) (bytes m))) quiet ∙ g.unlooked;
    err_regs = tt;
    err_own = tt;
    looks = g.looks;
    beneath = g.beneath;
    lender = g.lender;
  }

-- What an arm of the dispatch does for its byte, if it executes the instruction with this opcode.
pub arm : {X M : Type 0} (memory : M → Memory) (sure : Bool) (byte pc : ℕ) (r : Regs) (m : Memory) (ready : ℕ → Bool) (result : Result ℕ X) (r' : Regs) (m' : M) (op : Op) (done : Result ℕ X) (x : Regs) (y : M)
    → byte ≡ opcode_of op → result ≡ done → r' ≡ x → m' ≡ y → Moves sure op pc r m ready done x (memory y) → MovesByte sure byte pc r m ready result r' (memory m')
arm memory sure byte pc r m ready result r' m' op done x y e f g h a = let decodes : decoded byte ≡ Some op = decoded_some op byte (sym e) in rw (decodes, f, g, h) a.tries.attempts

-- The bytes of the instruction with this opcode can be read, if the opcode is kept.
pub operand_readable : (readable : ℕ → Bool) (pc byte k n : ℕ) → (IsKept byte → AreReadable readable pc (byte_count (decoded byte))) → byte ≡ k → IsKept k → byte_count (decoded k) ≡ n → AreReadable readable pc n
operand_readable readable pc byte k n kept e some count = subst (λ (j : ℕ). AreReadable readable pc j) count (subst (λ (b : ℕ). AreReadable readable pc (byte_count (decoded b))) e (kept (λ h. some (sym e ∙ h))))

-- HLT does not go on.
halts : {X : Type 0} (byte : ℕ) (r : Regs) (m : Memory) (ready : ℕ → Bool) (r' : Regs) (m' : Memory) → byte ≡ 118 → TriesByte {X = X} false byte r m ready (Ok did.Went) r' m' → ⊥
halts byte r m ready r' m' e a =
    let decodes : decoded byte ≡ Some Hlt = decoded_some Hlt byte (sym e) in
    let no : did.Went ≡ did.Halt = (a.unsure refl).did ∙ ap (λ op. did_of (end_of (decided byte op r) (bytes m))) decodes in
    let never : ⊥ = cc in never

-- After an instruction that went, and after one that was refused. The byte is the opcode at PC, or HLT in its place.
module _ {X : Type 0} {M : Type 0} (memory : M → Memory) (limit n : ℕ) (r : Regs) (m : M) (x : Regs) (y : M) (r' : Regs) (m' : M) (ran : RunsKnown memory limit n r m x y) (ready : ℕ → Bool) (byte : ℕ) where
  pub goes_once_more : ((byte ≡ 118 → ⊥) → byte ≡ bytes (memory y) x.pc) → ((byte ≡ 118 → ⊥) → look (memory y).own (memory y).looks x.pc ≡ (memory y).looks) → ((byte ≡ 118 → ⊥) → x.pc < limit)
      → TriesByte {X = X} false byte x (memory y) ready (Ok did.Went) r' (memory m') → RunsKnown memory limit (n + 1) r m r' m'
  goes_once_more value unlooked low a =
      let some : byte ≡ 118 → ⊥ = λ e. halts byte x (memory y) ready r' (memory m') e a in
      let here = subst (λ (b : ℕ). TriesByte {X = X} false b x (memory y) ready (Ok did.Went) r' (memory m')) (value some) a in
      runs_one_more memory limit n r m x y r' m' ran (low some) (goes_on x (memory y) r' (memory m') (at_pc x (memory y) r' (memory m') (unlooked some) (here.unsure refl)))

  pub stays : (e : X) → TriesByte false byte x (memory y) ready (Err e) r' (memory m') → RunsKnown memory limit n r m r' m'
  stays e a =
      let same = same_after_refusal (decided byte (decoded byte) x) x (memory y) e r' (memory m') (a.unsure refl) in
      runs_no_more memory limit n r m x y r' m' ran same.0 same.1
