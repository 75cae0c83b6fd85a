-- The opcode of each instruction, its first byte. [8080 manual 1975, chapter 4, instruction set]
use Rattle.std.specs.Prelude.{ℕ, ◌+◌, ◌*◌, ◌≡◌, ◌≢◌, Bool, Option, find, ◌==◌, List, [], ◌∷◌, ◌++◌, map, flat_map}
use Rattle.std.specs.List.{list_any}
use Rattle.i8080.specs.declared.opcode.Op.{Op}
use Rattle.i8080.specs.declared.opcode.Op.TheVariants.{Nop, Hlt, Mov, MovToMemory, Mvi, Lxi, Lda, Sta, Lhld, Shld, Ldax, Stax, Xchg, Accumulate, Inr, Dcr, Inx, Dcx, Dad, Rotate, Daa, Cma, Stc, Cmc, Jmp, JumpIf, Call, CallIf, Ret, RetIf, Rst, Pchl, Push, Pop, Xthl, Sphl, In, Out, Di, Ei}
use Rattle.i8080.specs.declared.opcode.Register.{Register}
use Rattle.i8080.specs.declared.opcode.Register.TheVariants.{B, C, D, E, H, L, A}
use Rattle.i8080.specs.declared.opcode.Place.{Place}
use Rattle.i8080.specs.declared.opcode.Place.TheVariants.{InRegister, Memory}
use Rattle.i8080.specs.declared.opcode.Pair.{Pair}
use Rattle.i8080.specs.declared.opcode.Pair.TheVariants.{Bc, De, Hl, Sp}
use Rattle.i8080.specs.declared.opcode.Saved.{Saved}
use Rattle.i8080.specs.declared.opcode.Saved.TheVariants.{BcPair, DePair, HlPair, Psw}
use Rattle.i8080.specs.declared.opcode.Base.{Base}
use Rattle.i8080.specs.declared.opcode.Base.TheVariants.{InBc, InDe}
use Rattle.i8080.specs.declared.opcode.Source.TheVariants.{At, Immediate}
use Rattle.i8080.specs.declared.opcode.Arithmetic.{Arithmetic}
use Rattle.i8080.specs.declared.opcode.Arithmetic.TheVariants.{Add, Adc, Sub, Sbb, Ana, Xra, Ora, Cmp}
use Rattle.i8080.specs.declared.opcode.Condition.{Condition}
use Rattle.i8080.specs.declared.opcode.Condition.TheVariants.{NotZero, Zero, NoCarry, Carry, ParityOdd, ParityEven, Plus, Minus}
use Rattle.i8080.specs.declared.opcode.Rotation.{Rotation}
use Rattle.i8080.specs.declared.opcode.Rotation.TheVariants.{Rlc, Rrc, Ral, Rar}
use Rattle.i8080.specs.declared.opcode.Restart.{Restart}
use Rattle.i8080.specs.declared.opcode.Restart.TheVariants.{Rst0, Rst1, Rst2, Rst3, Rst4, Rst5, Rst6, Rst7}

-- The codes of operands in an opcode.
abbrev pub register_code : Register → ℕ
register_code B = 0
register_code C = 1
register_code D = 2
register_code E = 3
register_code H = 4
register_code L = 5
register_code A = 7

abbrev pub place_code : Place → ℕ
place_code (InRegister x) = register_code x
place_code Memory = 6

abbrev pub pair_code : Pair → ℕ
pair_code Bc = 0
pair_code De = 1
pair_code Hl = 2
pair_code Sp = 3

abbrev pub saved_code : Saved → ℕ
saved_code BcPair = 0
saved_code DePair = 1
saved_code HlPair = 2
saved_code Psw = 3

abbrev pub base_code : Base → ℕ
base_code InBc = 0
base_code InDe = 1

abbrev pub arithmetic_code : Arithmetic → ℕ
arithmetic_code Add = 0
arithmetic_code Adc = 1
arithmetic_code Sub = 2
arithmetic_code Sbb = 3
arithmetic_code Ana = 4
arithmetic_code Xra = 5
arithmetic_code Ora = 6
arithmetic_code Cmp = 7

abbrev pub condition_code : Condition → ℕ
condition_code NotZero = 0
condition_code Zero = 1
condition_code NoCarry = 2
condition_code Carry = 3
condition_code ParityOdd = 4
condition_code ParityEven = 5
condition_code Plus = 6
condition_code Minus = 7

abbrev pub rotation_code : Rotation → ℕ
rotation_code Rlc = 0
rotation_code Rrc = 1
rotation_code Ral = 2
rotation_code Rar = 3

abbrev pub restart_code : Restart → ℕ
restart_code Rst0 = 0
restart_code Rst1 = 1
restart_code Rst2 = 2
restart_code Rst3 = 3
restart_code Rst4 = 4
restart_code Rst5 = 5
restart_code Rst6 = 6
restart_code Rst7 = 7

-- The opcode of an instruction.
abbrev pub opcode_of : Op → ℕ
opcode_of Nop = 0x00
opcode_of Hlt = 0x76
opcode_of (Mov to from) = 0x40 + 8 * register_code to + place_code from
opcode_of (MovToMemory from) = 0x70 + register_code from
opcode_of (Mvi to) = 0x06 + 8 * place_code to
opcode_of (Lxi to) = 0x01 + 16 * pair_code to
opcode_of Lda = 0x3A
opcode_of Sta = 0x32
opcode_of Lhld = 0x2A
opcode_of Shld = 0x22
opcode_of (Ldax base) = 0x0A + 16 * base_code base
opcode_of (Stax base) = 0x02 + 16 * base_code base
opcode_of Xchg = 0xEB
opcode_of (Accumulate f (At from)) = 0x80 + 8 * arithmetic_code f + place_code from
opcode_of (Accumulate f Immediate) = 0xC6 + 8 * arithmetic_code f
opcode_of (Inr at) = 0x04 + 8 * place_code at
opcode_of (Dcr at) = 0x05 + 8 * place_code at
opcode_of (Inx at) = 0x03 + 16 * pair_code at
opcode_of (Dcx at) = 0x0B + 16 * pair_code at
opcode_of (Dad from) = 0x09 + 16 * pair_code from
opcode_of (Rotate way) = 0x07 + 8 * rotation_code way
opcode_of Daa = 0x27
opcode_of Cma = 0x2F
opcode_of Stc = 0x37
opcode_of Cmc = 0x3F
opcode_of Jmp = 0xC3
opcode_of (JumpIf c) = 0xC2 + 8 * condition_code c
opcode_of Call = 0xCD
opcode_of (CallIf c) = 0xC4 + 8 * condition_code c
opcode_of Ret = 0xC9
opcode_of (RetIf c) = 0xC0 + 8 * condition_code c
opcode_of (Rst n) = 0xC7 + 8 * restart_code n
opcode_of Pchl = 0xE9
opcode_of (Push s) = 0xC5 + 16 * saved_code s
opcode_of (Pop s) = 0xC1 + 16 * saved_code s
opcode_of Xthl = 0xE3
opcode_of Sphl = 0xF9
opcode_of In = 0xDB
opcode_of Out = 0xD3
opcode_of Di = 0xF3
opcode_of Ei = 0xFB

-- All instructions, from lists of all operands.
abbrev pub registers : List Register
registers = B ∷ C ∷ D ∷ E ∷ H ∷ L ∷ A ∷ []

abbrev pub places : List Place
places = map InRegister registers ++ Memory ∷ []

abbrev pub pairs : List Pair
pairs = Bc ∷ De ∷ Hl ∷ Sp ∷ []

abbrev pub conditions : List Condition
conditions = NotZero ∷ Zero ∷ NoCarry ∷ Carry ∷ ParityOdd ∷ ParityEven ∷ Plus ∷ Minus ∷ []

abbrev pub arithmetic_operations : List Arithmetic
arithmetic_operations = Add ∷ Adc ∷ Sub ∷ Sbb ∷ Ana ∷ Xra ∷ Ora ∷ Cmp ∷ []

abbrev pub saved_words : List Saved
saved_words = BcPair ∷ DePair ∷ HlPair ∷ Psw ∷ []

abbrev pub bases : List Base
bases = InBc ∷ InDe ∷ []

abbrev pub instructions : List Op
instructions = Nop ∷ Hlt ∷ Lda ∷ Sta ∷ Lhld ∷ Shld ∷ Xchg ∷ Daa ∷ Cma ∷ Stc ∷ Cmc ∷ Jmp ∷ Call ∷ Ret ∷ Pchl ∷ Xthl ∷ Sphl ∷ In ∷ Out ∷ Di ∷ Ei
    ∷ (map Rotate (Rlc ∷ Rrc ∷ Ral ∷ Rar ∷ [])
    ++ map Rst (Rst0 ∷ Rst1 ∷ Rst2 ∷ Rst3 ∷ Rst4 ∷ Rst5 ∷ Rst6 ∷ Rst7 ∷ [])
    ++ map MovToMemory registers ++ map Mvi places ++ map Inr places ++ map Dcr places
    ++ map Lxi pairs ++ map Inx pairs ++ map Dcx pairs ++ map Dad pairs
    ++ map Ldax bases ++ map Stax bases ++ map Push saved_words ++ map Pop saved_words
    ++ map JumpIf conditions ++ map CallIf conditions ++ map RetIf conditions
    ++ flat_map (λ to. map (λ from. Mov to from) places) registers
    ++ flat_map (λ f. Accumulate f Immediate ∷ map (λ from. Accumulate f (At from)) places) arithmetic_operations)

-- The instruction with this opcode, if there is one.
unfoldable pub decoded : ℕ → Option Op
decoded byte = find (λ op. opcode_of op == byte) instructions

-- The twelve undefined bytes, which [8080 manual 1975, chapter 4, instruction set] assigns to no instruction.
abbrev pub undefined_bytes : List ℕ
undefined_bytes = 0x08 ∷ 0x10 ∷ 0x18 ∷ 0x20 ∷ 0x28 ∷ 0x30 ∷ 0x38 ∷ 0xCB ∷ 0xD9 ∷ 0xDD ∷ 0xED ∷ 0xFD ∷ []

abbrev pub is_undefined : ℕ → Bool
is_undefined byte = list_any (λ b. b == byte) undefined_bytes

-- No instruction has this opcode; exactly one instruction has it.
abbrev pub NoneHas : ℕ → Type 0
NoneHas byte = (op : Op) → opcode_of op ≢ byte

abbrev pub OneHas : ℕ → Type 0
OneHas byte = (op : Op) × (opcode_of op ≡ byte) × ((other : Op) → opcode_of other ≡ byte → other ≡ op)
