-- The text of each instruction. [8080 manual 1975, chapter 4, instruction set]
use Rattle.std.specs.Prelude.{ℕ, zero, suc, ◌+◌, List, [], ◌∷◌, ◌++◌, codes, Option, Some, None, if◌then◌else◌, nat_le, find, bytes_eq, map}
use Rattle.std.specs.List.{range_with_len}
use Rattle.hex.specs.Hex.{encode_upper}
use Rattle.i8080.specs.Opcodes.{restart_code, instructions, decoded}
use Rattle.i8080.specs.Operands.{operand_count}
use Rattle.i8080.specs.declared.opcode.Op.{Op}
use Rattle.i8080.specs.declared.opcode.Op.TheVariants.{Nop, Hlt, Mov, MovToMemory, Mvi, Lxi, Lda, Sta, Lhld, Shld, Ldax, Stax, Xchg, Accumulate, Inr, Dcr, Inx, Dcx, Dad, Rotate, Daa, Cma, Stc, Cmc, Jmp, JumpIf, Call, CallIf, Ret, RetIf, Rst, Pchl, Push, Pop, Xthl, Sphl, In, Out, Di, Ei}
use Rattle.i8080.specs.declared.opcode.Register.TheVariants.{B, C, D, E, H, L, A}
use Rattle.i8080.specs.declared.opcode.Place.{Place}
use Rattle.i8080.specs.declared.opcode.Place.TheVariants.{InRegister, Memory}
use Rattle.i8080.specs.declared.opcode.Pair.{Pair}
use Rattle.i8080.specs.declared.opcode.Pair.TheVariants.{Bc, De, Hl, Sp}
use Rattle.i8080.specs.declared.opcode.Saved.{Saved}
use Rattle.i8080.specs.declared.opcode.Saved.TheVariants.{BcPair, DePair, HlPair, Psw}
use Rattle.i8080.specs.declared.opcode.Base.TheVariants.{InBc, InDe}
use Rattle.i8080.specs.declared.opcode.Source.TheVariants.{At, Immediate}
use Rattle.i8080.specs.declared.opcode.Arithmetic.TheVariants.{Add, Adc, Sub, Sbb, Ana, Xra, Ora, Cmp}
use Rattle.i8080.specs.declared.opcode.Condition.{Condition}
use Rattle.i8080.specs.declared.opcode.Condition.TheVariants.{NotZero, Zero, NoCarry, Carry, ParityOdd, ParityEven, Plus, Minus}
use Rattle.i8080.specs.declared.opcode.Rotation.TheVariants.{Rlc, Rrc, Ral, Rar}

abbrev pub place_name : Place → List ℕ
place_name (InRegister B) = codes "B"
place_name (InRegister C) = codes "C"
place_name (InRegister D) = codes "D"
place_name (InRegister E) = codes "E"
place_name (InRegister H) = codes "H"
place_name (InRegister L) = codes "L"
place_name (InRegister A) = codes "A"
place_name Memory = codes "M"

abbrev pub pair_name : Pair → List ℕ
pair_name Bc = codes "B"
pair_name De = codes "D"
pair_name Hl = codes "H"
pair_name Sp = codes "SP"

abbrev pub saved_name : Saved → List ℕ
saved_name BcPair = codes "B"
saved_name DePair = codes "D"
saved_name HlPair = codes "H"
saved_name Psw = codes "PSW"

abbrev pub condition_name : Condition → List ℕ
condition_name NotZero = codes "NZ"
condition_name Zero = codes "Z"
condition_name NoCarry = codes "NC"
condition_name Carry = codes "C"
condition_name ParityOdd = codes "PO"
condition_name ParityEven = codes "PE"
condition_name Plus = codes "P"
condition_name Minus = codes "M"

-- The text of an instruction before its operand bytes. Only if operand bytes follow, it ends by a comma or a blank.
abbrev pub mnemonic : Op → List ℕ
mnemonic Nop = codes "NOP"
mnemonic Hlt = codes "HLT"
mnemonic (Mov to from) = codes "MOV " ++ place_name (InRegister to) ++ codes "," ++ place_name from
mnemonic (MovToMemory from) = codes "MOV M," ++ place_name (InRegister from)
mnemonic (Mvi to) = codes "MVI " ++ place_name to ++ codes ","
mnemonic (Lxi to) = codes "LXI " ++ pair_name to ++ codes ","
mnemonic Lda = codes "LDA "
mnemonic Sta = codes "STA "
mnemonic Lhld = codes "LHLD "
mnemonic Shld = codes "SHLD "
mnemonic (Ldax InBc) = codes "LDAX B"
mnemonic (Ldax InDe) = codes "LDAX D"
mnemonic (Stax InBc) = codes "STAX B"
mnemonic (Stax InDe) = codes "STAX D"
mnemonic Xchg = codes "XCHG"
mnemonic (Accumulate Add (At from)) = codes "ADD " ++ place_name from
mnemonic (Accumulate Adc (At from)) = codes "ADC " ++ place_name from
mnemonic (Accumulate Sub (At from)) = codes "SUB " ++ place_name from
mnemonic (Accumulate Sbb (At from)) = codes "SBB " ++ place_name from
mnemonic (Accumulate Ana (At from)) = codes "ANA " ++ place_name from
mnemonic (Accumulate Xra (At from)) = codes "XRA " ++ place_name from
mnemonic (Accumulate Ora (At from)) = codes "ORA " ++ place_name from
mnemonic (Accumulate Cmp (At from)) = codes "CMP " ++ place_name from
mnemonic (Accumulate Add Immediate) = codes "ADI "
mnemonic (Accumulate Adc Immediate) = codes "ACI "
mnemonic (Accumulate Sub Immediate) = codes "SUI "
mnemonic (Accumulate Sbb Immediate) = codes "SBI "
mnemonic (Accumulate Ana Immediate) = codes "ANI "
mnemonic (Accumulate Xra Immediate) = codes "XRI "
mnemonic (Accumulate Ora Immediate) = codes "ORI "
mnemonic (Accumulate Cmp Immediate) = codes "CPI "
mnemonic (Inr at) = codes "INR " ++ place_name at
mnemonic (Dcr at) = codes "DCR " ++ place_name at
mnemonic (Inx at) = codes "INX " ++ pair_name at
mnemonic (Dcx at) = codes "DCX " ++ pair_name at
mnemonic (Dad from) = codes "DAD " ++ pair_name from
mnemonic (Rotate Rlc) = codes "RLC"
mnemonic (Rotate Rrc) = codes "RRC"
mnemonic (Rotate Ral) = codes "RAL"
mnemonic (Rotate Rar) = codes "RAR"
mnemonic Daa = codes "DAA"
mnemonic Cma = codes "CMA"
mnemonic Stc = codes "STC"
mnemonic Cmc = codes "CMC"
mnemonic Jmp = codes "JMP "
mnemonic (JumpIf c) = codes "J" ++ condition_name c ++ codes " "
mnemonic Call = codes "CALL "
mnemonic (CallIf c) = codes "C" ++ condition_name c ++ codes " "
mnemonic Ret = codes "RET"
mnemonic (RetIf c) = codes "R" ++ condition_name c
mnemonic (Rst n) = codes "RST " ++ (0x30 + restart_code n) ∷ []
mnemonic Pchl = codes "PCHL"
mnemonic (Push s) = codes "PUSH " ++ saved_name s
mnemonic (Pop s) = codes "POP " ++ saved_name s
mnemonic Xthl = codes "XTHL"
mnemonic Sphl = codes "SPHL"
mnemonic In = codes "IN "
mnemonic Out = codes "OUT "
mnemonic Di = codes "DI"
mnemonic Ei = codes "EI"

-- The instruction with this text before its operand bytes, if there is one.
unfoldable pub named : List ℕ → Option Op
named text = find (λ op. bytes_eq (mnemonic op) text) instructions

-- The two digits of a byte.
abbrev pub digits : ℕ → List ℕ
digits byte = encode_upper (byte ∷ [])

-- The digits of the first byte of a number. A 0 comes before a letter.
abbrev pub first_digits : ℕ → List ℕ
first_digits byte = if nat_le 0xA0 byte then codes "0" ++ digits byte else digits byte

abbrev pub byte_text : ℕ → List ℕ
byte_text byte = first_digits byte ++ codes "H"

abbrev pub word_text : ℕ → ℕ → List ℕ
word_text low high = first_digits high ++ digits low ++ codes "H"

-- An operand of this many bytes, from the bytes after the opcode. The low byte of a word comes first in memory.
abbrev pub operand_text : ℕ → ℕ → ℕ → List ℕ
operand_text zero second third = []
operand_text (suc zero) second third = byte_text second
operand_text _ second third = word_text second third

-- The text before the operand. `DB` is for an undefined byte, which is its operand. (That is this project's own.)
abbrev pub opening_text : Option Op → List ℕ
opening_text None = codes "DB "
opening_text (Some op) = mnemonic op

-- The whole text of what is decoded from these three bytes.
abbrev pub instruction_text : Option Op → ℕ → ℕ → ℕ → List ℕ
instruction_text None opcode second third = opening_text None ++ byte_text opcode
instruction_text (Some op) opcode second third = opening_text (Some op) ++ operand_text (operand_count op) second third

-- The texts before the operand for all bytes, in order.
abbrev pub openings : List (List ℕ)
openings = map (λ opcode. opening_text (decoded opcode)) (range_with_len 0 256)
