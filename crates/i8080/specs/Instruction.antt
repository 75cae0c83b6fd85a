-- What each instruction reads, and what it then does. ([8080 manual 1975, chapter 4, instruction set]; a definition that is
-- not from there says so.)
use Rattle.std.specs.Prelude.{ℕ, ◌+◌, ◌-◌, ◌*◌, ◌/◌, ◌%◌, ◌^◌, ◌==◌, ◌||◌, not, nat_le, nat_lt, if◌then◌else◌, Bool, true, false, bit_and, bit_or, bit_xor, List, [], ◌∷◌, Option, Some, None}
use Rattle.i8080.specs.declared.registers.Regs.{Regs}
use Rattle.i8080.specs.declared.flags.Flags.{Flags}
use Rattle.i8080.specs.declared.opcode.Op.{Op}
use Rattle.i8080.specs.declared.opcode.Op.TheVariants.{Nop, Hlt, Mov, MovToMemory, Mvi, Lxi, Lda, Sta, Lhld, Shld, Ldax, Stax, Xchg, Accumulate, Inr, Dcr, Inx, Dcx, Dad, Rotate, Daa, Cma, Stc, Cmc, Jmp, JumpIf, Call, CallIf, Ret, RetIf, Rst, Pchl, Push, Pop, Xthl, Sphl, In, Out, Di, Ei}
use Rattle.i8080.specs.declared.opcode.Place.{Place}
use Rattle.i8080.specs.declared.opcode.Place.TheVariants.{InRegister, Memory}
use Rattle.i8080.specs.declared.opcode.Pair.TheVariants.{Bc, De, Hl}
use Rattle.i8080.specs.declared.opcode.Base.{Base}
use Rattle.i8080.specs.declared.opcode.Base.TheVariants.{InBc, InDe}
use Rattle.i8080.specs.declared.opcode.Source.TheVariants.{At, Immediate}
use Rattle.i8080.specs.declared.opcode.Arithmetic.{Arithmetic}
use Rattle.i8080.specs.declared.opcode.Arithmetic.TheVariants.{Add, Adc, Sub, Sbb, Ana, Xra, Ora, Cmp}
use Rattle.i8080.specs.declared.opcode.Condition.{Condition}
use Rattle.i8080.specs.declared.opcode.Condition.TheVariants.{NotZero, Zero, NoCarry, Carry, ParityOdd, ParityEven, Plus, Minus}
use Rattle.i8080.specs.declared.opcode.Rotation.{Rotation}
use Rattle.i8080.specs.declared.opcode.Rotation.TheVariants.{Rlc, Rrc, Ral, Rar}
use Rattle.i8080.specs.Flags.{bit, flags_after}
use Rattle.i8080.specs.Registers.{onward, word, low, high, value_of, with_value, pair_of, with_pair, saved_of, with_saved, advance}
use Rattle.i8080.specs.Reading.{Reading, Done, Cell}
use Rattle.i8080.specs.End.{End, Went, Halt, Undefined}
use Rattle.i8080.specs.Opcodes.{decoded, restart_code}

-- ADD, ADC, ADI, ACI: the sum with this carry in; AC and CY are its carries out of bit 3 and bit 7.
abbrev pub sum_into : ℕ → ℕ → Regs → Regs
sum_into x carry r =
    let whole = r.a + x + carry in
    record r { a = whole % 256; flags = flags_after (whole % 256) (nat_le 16 (r.a % 16 + x % 16 + carry)) (nat_le 256 whole) }

-- SUB, SBB, SUI, SBI, CMP, CPI: the sum with the complement, with this borrow in. CY is the borrow; AC is the carry out of
-- bit 3 of the sum, which is 1 if and only if the low four bits need no borrow.
abbrev pub whole_difference : ℕ → ℕ → ℕ → ℕ
whole_difference a x borrow = a + (255 - x) + (1 - borrow)

abbrev pub difference_flags : ℕ → ℕ → ℕ → Flags
difference_flags a x borrow =
    let whole = whole_difference a x borrow in
    flags_after (whole % 256) (nat_le 16 (a % 16 + (15 - x % 16) + (1 - borrow))) (nat_lt whole 256)

abbrev pub difference_into : ℕ → ℕ → Regs → Regs
difference_into x borrow r =
    record r { a = whole_difference r.a x borrow % 256; flags = difference_flags r.a x borrow }

-- ANA, XRA, ORA and their immediate forms: CY is cleared, and AC is a parameter.
abbrev pub logic_into : ℕ → Bool → Regs → Regs
logic_into v ac r = record r { a = v; flags = flags_after v ac false }

-- XRA and ORA clear AC. Not from the manual: AC after ANA and ANI is the OR of bit 3 of the two operands.
abbrev pub accumulate : Arithmetic → ℕ → Regs → Regs
accumulate Add x r = sum_into x 0 r
accumulate Adc x r = sum_into x (bit r.flags.cy) r
accumulate Sub x r = difference_into x 0 r
accumulate Sbb x r = difference_into x (bit r.flags.cy) r
accumulate Ana x r = logic_into (bit_and r.a x) (r.a / 8 % 2 == 1 || x / 8 % 2 == 1) r
accumulate Xra x r = logic_into (bit_xor r.a x) false r
accumulate Ora x r = logic_into (bit_or r.a x) false r
accumulate Cmp x r = record r { flags = difference_flags r.a x 0 }

-- INR: plus one, modulo 256. AC is the carry out of bit 3; CY is unchanged.
abbrev pub incremented : ℕ → ℕ
incremented v = (v + 1) % 256

abbrev pub incremented_flags : ℕ → Flags → Flags
incremented_flags v f = flags_after (incremented v) (v % 16 == 15) f.cy

-- DCR: minus one, modulo 256. AC is 0 if and only if the low four bits were 0; CY is unchanged.
abbrev pub decremented : ℕ → ℕ
decremented v = (v + 255) % 256

abbrev pub decremented_flags : ℕ → Flags → Flags
decremented_flags v f = flags_after (decremented v) (not (v % 16 == 0)) f.cy

-- DAD: the sum of HL and a register pair. CY is the carry out of bit 15; the other flags are unchanged.
abbrev pub double_added : ℕ → Regs → Regs
double_added x r =
    let whole = pair_of Hl r + x in
    let f = r.flags in
    with_pair Hl (whole % 2 ^ 16) (record r { flags = record f { cy = nat_le 65536 whole } })

-- The accumulator after a rotation, with the bit that was moved out as CY.
abbrev pub rotated_to : ℕ → Bool → Regs → Regs
rotated_to v cy r = let f = r.flags in record r { a = v; flags = record f { cy = cy } }

-- RLC, RRC: bit 7 and bit 0 are joined. RAL, RAR: CY is between bit 7 and bit 0.
abbrev pub rotate : Rotation → Regs → Regs
rotate Rlc r = rotated_to (2 * r.a % 256 + r.a / 128) (r.a / 128 == 1) r
rotate Rrc r = rotated_to (r.a / 2 + 128 * (r.a % 2)) (r.a % 2 == 1) r
rotate Ral r = rotated_to (2 * r.a % 256 + bit r.flags.cy) (r.a / 128 == 1) r
rotate Rar r = rotated_to (r.a / 2 + 128 * bit r.flags.cy) (r.a % 2 == 1) r

-- DAA: adds 6 if the low four bits exceed 9 or AC is set; AC is the carry out of bit 3 of this addition. Then adds 60H and
-- sets CY if CY was set or the sum so far is at least 160, and clears CY otherwise.
abbrev pub decimal_adjusted : Regs → Regs
decimal_adjusted r =
    let six = if nat_lt 9 (r.a % 16) || r.flags.ac then 6 else 0 in
    let cy = r.flags.cy || nat_le 160 (r.a + six) in
    let v = (r.a + six + 96 * bit cy) % 256 in
    record r { a = v; flags = flags_after v (nat_le 16 (r.a % 16 + six)) cy }

-- STC, CMC: the registers with this carry.
abbrev pub with_carry : Bool → Regs → Regs
with_carry cy r = let f = r.flags in record r { flags = record f { cy = cy } }

-- Whether the condition of a jump, a call or a return is met.
abbrev pub is_met : Condition → Flags → Bool
is_met NotZero f = not f.z
is_met Zero f = f.z
is_met NoCarry f = not f.cy
is_met Carry f = f.cy
is_met ParityOdd f = not f.p
is_met ParityEven f = f.p
is_met Plus f = not f.s
is_met Minus f = f.s

-- The write of one byte, and the writes of a word.
abbrev pub one_byte : ℕ → ℕ → List (ℕ × ℕ)
one_byte a v = (a, v) ∷ []

abbrev pub one_word : ℕ → ℕ → List (ℕ × ℕ)
one_word a w = (a, low w) ∷ (onward a 1, high w) ∷ []

-- The end of an instruction that writes nothing, and of one that writes.
abbrev pub went : Regs → Reading End
went r = Done (Went r [])

abbrev pub storing : List (ℕ × ℕ) → Regs → Reading End
storing writes r = Done (Went r writes)

-- A read of a word, low byte first.
abbrev pub word_at : {E : Type 0} → ℕ → (ℕ → Reading E) → Reading E
word_at a k = Cell a (λ v. Cell (onward a 1) (λ w. k (word v w)))

-- A read of the word after the opcode.
abbrev pub operand_word : {E : Type 0} → Regs → (ℕ → Reading E) → Reading E
operand_word r k = word_at (onward r.pc 1) k

-- A read, and a write, of a register or of the cell at HL.
abbrev pub from_place : {E : Type 0} → Place → Regs → (ℕ → Reading E) → Reading E
from_place (InRegister x) r k = k (value_of x r)
from_place Memory r k = Cell (pair_of Hl r) k

abbrev pub to_place : Place → ℕ → Regs → Reading End
to_place (InRegister x) v r = went (with_value x v r)
to_place Memory v r = storing (one_byte (pair_of Hl r) v) r

-- The address for LDAX and STAX.
abbrev pub base_of : Base → Regs → ℕ
base_of InBc r = pair_of Bc r
base_of InDe r = pair_of De r

-- A push writes the high byte of the word at SP-1 and the low byte at SP-2, and decreases SP by two, modulo 65,536.
abbrev pub pushing : ℕ → Regs → Reading End
pushing v r = let top = onward r.sp 65534 in storing (one_word top v) (record r { sp = top })

abbrev pub popped : Regs → Regs
popped r = record r { sp = onward r.sp 2 }

abbrev pub jumped : ℕ → Regs → Regs
jumped to r = record r { pc = to }

-- An instruction, from the registers before it. Not from the manual: IN reads 0FFH, and OUT, DI and EI do nothing.
abbrev pub operation : Op → Regs → Reading End
operation Nop r = went (advance 1 r)
operation Hlt r = Done Halt
operation (Mov to from) r = from_place from r (λ v. went (advance 1 (with_value to v r)))
operation (MovToMemory from) r = storing (one_byte (pair_of Hl r) (value_of from r)) (advance 1 r)
operation (Mvi to) r = Cell (onward r.pc 1) (λ v. to_place to v (advance 2 r))
operation (Lxi to) r = operand_word r (λ w. went (advance 3 (with_pair to w r)))
operation Lda r = operand_word r (λ w. Cell w (λ v. went (advance 3 (record r { a = v }))))
operation Sta r = operand_word r (λ w. storing (one_byte w r.a) (advance 3 r))
operation Lhld r = operand_word r (λ w. word_at w (λ v. went (advance 3 (with_pair Hl v r))))
operation Shld r = operand_word r (λ w. storing (one_word w (pair_of Hl r)) (advance 3 r))
operation (Ldax base) r = Cell (base_of base r) (λ v. went (advance 1 (record r { a = v })))
operation (Stax base) r = storing (one_byte (base_of base r) r.a) (advance 1 r)
operation Xchg r = went (advance 1 (with_pair De (pair_of Hl r) (with_pair Hl (pair_of De r) r)))
operation (Accumulate f (At from)) r = from_place from r (λ v. went (advance 1 (accumulate f v r)))
operation (Accumulate f Immediate) r = Cell (onward r.pc 1) (λ v. went (advance 2 (accumulate f v r)))
operation (Inr at) r = from_place at r (λ v. to_place at (incremented v) (advance 1 (record r { flags = incremented_flags v r.flags })))
operation (Dcr at) r = from_place at r (λ v. to_place at (decremented v) (advance 1 (record r { flags = decremented_flags v r.flags })))
operation (Inx at) r = went (advance 1 (with_pair at (onward (pair_of at r) 1) r))
operation (Dcx at) r = went (advance 1 (with_pair at (onward (pair_of at r) 65535) r))
operation (Dad from) r = went (advance 1 (double_added (pair_of from r) r))
operation (Rotate way) r = went (advance 1 (rotate way r))
operation Daa r = went (advance 1 (decimal_adjusted r))
operation Cma r = went (advance 1 (record r { a = 255 - r.a }))
operation Stc r = went (advance 1 (with_carry true r))
operation Cmc r = went (advance 1 (with_carry (not r.flags.cy) r))
operation Jmp r = operand_word r (λ w. went (jumped w r))
operation (JumpIf c) r = operand_word r (λ w. went (if is_met c r.flags then jumped w r else advance 3 r))
operation Call r = operand_word r (λ w. pushing (onward r.pc 3) (jumped w r))
operation (CallIf c) r = operand_word r (λ w. if is_met c r.flags then pushing (onward r.pc 3) (jumped w r) else went (advance 3 r))
operation Ret r = word_at r.sp (λ w. went (jumped w (popped r)))
operation (RetIf c) r = if is_met c r.flags then word_at r.sp (λ w. went (jumped w (popped r))) else went (advance 1 r)
operation (Rst n) r = pushing (onward r.pc 1) (jumped (8 * restart_code n) r)
operation Pchl r = went (jumped (pair_of Hl r) r)
operation (Push s) r = pushing (saved_of s r) (advance 1 r)
operation (Pop s) r = word_at r.sp (λ w. went (advance 1 (with_saved s w (popped r))))
operation Xthl r = word_at r.sp (λ w. storing (one_word r.sp (pair_of Hl r)) (advance 1 (with_pair Hl w r)))
operation Sphl r = went (advance 1 (record r { sp = pair_of Hl r }))
operation In r = Cell (onward r.pc 1) (λ port. went (advance 2 (record r { a = 255 })))
operation Out r = Cell (onward r.pc 1) (λ port. went (advance 2 r))
operation Di r = went (advance 1 r)
operation Ei r = went (advance 1 r)

-- The instruction whose opcode was read.
abbrev pub decided : ℕ → Option Op → Regs → Reading End
decided byte None r = Done (Undefined byte)
decided byte (Some op) r = operation op r

-- The instruction at PC.
unfoldable pub instruction : Regs → Reading End
instruction r = Cell r.pc (λ byte. decided byte (decoded byte) r)
