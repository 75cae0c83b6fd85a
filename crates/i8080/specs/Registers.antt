-- Registers, register pairs and the word PSW, by name. [8080 manual 1975, chapter 4, registers]
use Rattle.std.specs.Prelude.{ℕ, ◌+◌, ◌*◌, ◌/◌, ◌%◌, ◌^◌}
use Rattle.i8080.specs.declared.registers.Regs.{Regs}
use Rattle.i8080.specs.declared.opcode.Register.{Register}
use Rattle.i8080.specs.declared.opcode.Register.TheVariants.{B, C, D, E, H, L, A}
use Rattle.i8080.specs.declared.opcode.Pair.{Pair}
use Rattle.i8080.specs.declared.opcode.Pair.TheVariants.{Bc, De, Hl, Sp}
use Rattle.i8080.specs.declared.opcode.Saved.{Saved}
use Rattle.i8080.specs.declared.opcode.Saved.TheVariants.{BcPair, DePair, HlPair, Psw}
use Rattle.i8080.specs.Flags.{byte_of, flags_in}

-- The address n cells further on, modulo 65,536.
abbrev pub onward : ℕ → ℕ → ℕ
onward a n = (a + n) % 2 ^ 16

-- The word with two given bytes, and the bytes of a word.
abbrev pub word : ℕ → ℕ → ℕ
word low high = low + 256 * high

abbrev pub low : ℕ → ℕ
low w = w % 256

abbrev pub high : ℕ → ℕ
high w = w / 256

-- The byte in an 8-bit register.
abbrev pub value_of : Register → Regs → ℕ
value_of B r = r.b
value_of C r = r.c
value_of D r = r.d
value_of E r = r.e
value_of H r = r.h
value_of L r = r.l
value_of A r = r.a

abbrev pub with_value : Register → ℕ → Regs → Regs
with_value B v r = record r { b = v }
with_value C v r = record r { c = v }
with_value D v r = record r { d = v }
with_value E v r = record r { e = v }
with_value H v r = record r { h = v }
with_value L v r = record r { l = v }
with_value A v r = record r { a = v }

-- The word in a register pair. The first register of a pair is the high byte.
abbrev pub pair_of : Pair → Regs → ℕ
pair_of Bc r = word r.c r.b
pair_of De r = word r.e r.d
pair_of Hl r = word r.l r.h
pair_of Sp r = r.sp

abbrev pub with_pair : Pair → ℕ → Regs → Regs
with_pair Bc v r = record r { b = high v; c = low v }
with_pair De v r = record r { d = high v; e = low v }
with_pair Hl v r = record r { h = high v; l = low v }
with_pair Sp v r = record r { sp = v }

-- The word that PUSH and POP move. PSW is A as the high byte and the flag byte as the low byte.
abbrev pub saved_of : Saved → Regs → ℕ
saved_of BcPair r = pair_of Bc r
saved_of DePair r = pair_of De r
saved_of HlPair r = pair_of Hl r
saved_of Psw r = word (byte_of r.flags) r.a

abbrev pub with_saved : Saved → ℕ → Regs → Regs
with_saved BcPair v r = with_pair Bc v r
with_saved DePair v r = with_pair De v r
with_saved HlPair v r = with_pair Hl v r
with_saved Psw v r = record r { a = high v; flags = flags_in (low v) }

-- The registers with PC advanced.
abbrev pub advance : ℕ → Regs → Regs
advance n r = record r { pc = onward r.pc n }
