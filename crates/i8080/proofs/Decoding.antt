-- `decoded` finds each instruction by its opcode, so that no two instructions have the same opcode.
use Rattle.std.proofs.Common.{MatchOption, ◌≡◌, ◌≢◌, ◌<◌, ◌+◌, ◌==◌, ◌&&◌, not, ℕ, Bool, true, false, Option, Some, None, get_or, refl, sym, ◌∙◌, subst, arith, inl, inr}
use Rattle.std.specs.List.{list_all, range_with_len}
use Rattle.std.proofs.lemmas.Bool.{and_parts}
use Rattle.std.proofs.lemmas.Bool.Decides.{eqb_tells}
use Rattle.std.proofs.lemmas.List.Elements.{All-get_or}
use Rattle.std.proofs.lemmas.List.Sums.{AllPass-from_list_all}
use Rattle.std.proofs.lemmas.List.FromFn.{get_or-range_with_len}
use Rattle.i8080.specs.Opcodes.{opcode_of, decoded, is_undefined, NoneHas, OneHas}
use Rattle.i8080.specs.declared.opcode.Op.{Op}
use Rattle.i8080.specs.declared.opcode.Op.TheVariants.{Mov, MovToMemory, Mvi, Lxi, Ldax, Stax, Accumulate, Inr, Dcr, Inx, Dcx, Dad, Rotate, JumpIf, CallIf, RetIf, Rst, Push, Pop}
use Rattle.i8080.specs.declared.opcode.Register.{Register}
use Rattle.i8080.specs.declared.opcode.Register.TheVariants.{B, C, D, E, H, L, A}
use Rattle.i8080.specs.declared.opcode.Place.TheVariants.{InRegister, Memory}
use Rattle.i8080.specs.declared.opcode.Pair.{Pair}
use Rattle.i8080.specs.declared.opcode.Pair.TheVariants.{Bc}
use Rattle.i8080.specs.declared.opcode.Saved.{Saved}
use Rattle.i8080.specs.declared.opcode.Saved.TheVariants.{BcPair}
use Rattle.i8080.specs.declared.opcode.Base.{Base}
use Rattle.i8080.specs.declared.opcode.Base.TheVariants.{InBc}
use Rattle.i8080.specs.declared.opcode.Source.TheVariants.{At, Immediate}
use Rattle.i8080.specs.declared.opcode.Arithmetic.{Arithmetic}
use Rattle.i8080.specs.declared.opcode.Arithmetic.TheVariants.{Add, Adc, Sub, Sbb, Ana, Xra, Ora, Cmp}
use Rattle.i8080.specs.declared.opcode.Condition.{Condition}
use Rattle.i8080.specs.declared.opcode.Condition.TheVariants.{NotZero}
use Rattle.i8080.specs.declared.opcode.Rotation.{Rotation}
use Rattle.i8080.specs.declared.opcode.Rotation.TheVariants.{Rlc}
use Rattle.i8080.specs.declared.opcode.Restart.{Restart}
use Rattle.i8080.specs.declared.opcode.Restart.TheVariants.{Rst0}

-- `decoded` finds an instruction by its opcode.
abbrev Found : Op → Type 0
Found op = decoded (opcode_of op) ≡ Some op

to_B : (x : Register) → Found (Mov B (InRegister x))
unfolding decoded
to_B B = refl
to_B _ = refl

to_C : (x : Register) → Found (Mov C (InRegister x))
unfolding decoded
to_C B = refl
to_C _ = refl

to_D : (x : Register) → Found (Mov D (InRegister x))
unfolding decoded
to_D B = refl
to_D _ = refl

to_E : (x : Register) → Found (Mov E (InRegister x))
unfolding decoded
to_E B = refl
to_E _ = refl

to_H : (x : Register) → Found (Mov H (InRegister x))
unfolding decoded
to_H B = refl
to_H _ = refl

to_L : (x : Register) → Found (Mov L (InRegister x))
unfolding decoded
to_L B = refl
to_L _ = refl

to_A : (x : Register) → Found (Mov A (InRegister x))
unfolding decoded
to_A B = refl
to_A _ = refl

from_memory : (x : Register) → Found (Mov x Memory)
unfolding decoded
from_memory B = refl
from_memory _ = refl

add_register : (x : Register) → Found (Accumulate Add (At (InRegister x)))
unfolding decoded
add_register B = refl
add_register _ = refl

adc_register : (x : Register) → Found (Accumulate Adc (At (InRegister x)))
unfolding decoded
adc_register B = refl
adc_register _ = refl

sub_register : (x : Register) → Found (Accumulate Sub (At (InRegister x)))
unfolding decoded
sub_register B = refl
sub_register _ = refl

sbb_register : (x : Register) → Found (Accumulate Sbb (At (InRegister x)))
unfolding decoded
sbb_register B = refl
sbb_register _ = refl

ana_register : (x : Register) → Found (Accumulate Ana (At (InRegister x)))
unfolding decoded
ana_register B = refl
ana_register _ = refl

xra_register : (x : Register) → Found (Accumulate Xra (At (InRegister x)))
unfolding decoded
xra_register B = refl
xra_register _ = refl

ora_register : (x : Register) → Found (Accumulate Ora (At (InRegister x)))
unfolding decoded
ora_register B = refl
ora_register _ = refl

cmp_register : (x : Register) → Found (Accumulate Cmp (At (InRegister x)))
unfolding decoded
cmp_register B = refl
cmp_register _ = refl

on_memory : (x : Arithmetic) → Found (Accumulate x (At Memory))
unfolding decoded
on_memory Add = refl
on_memory _ = refl

on_immediate : (x : Arithmetic) → Found (Accumulate x Immediate)
unfolding decoded
on_immediate Add = refl
on_immediate _ = refl

mvi_register : (x : Register) → Found (Mvi (InRegister x))
unfolding decoded
mvi_register B = refl
mvi_register _ = refl

inr_register : (x : Register) → Found (Inr (InRegister x))
unfolding decoded
inr_register B = refl
inr_register _ = refl

dcr_register : (x : Register) → Found (Dcr (InRegister x))
unfolding decoded
dcr_register B = refl
dcr_register _ = refl

store_found : (x : Register) → Found (MovToMemory x)
unfolding decoded
store_found B = refl
store_found _ = refl

lxi_found : (x : Pair) → Found (Lxi x)
unfolding decoded
lxi_found Bc = refl
lxi_found _ = refl

inx_found : (x : Pair) → Found (Inx x)
unfolding decoded
inx_found Bc = refl
inx_found _ = refl

dcx_found : (x : Pair) → Found (Dcx x)
unfolding decoded
dcx_found Bc = refl
dcx_found _ = refl

dad_found : (x : Pair) → Found (Dad x)
unfolding decoded
dad_found Bc = refl
dad_found _ = refl

ldax_found : (x : Base) → Found (Ldax x)
unfolding decoded
ldax_found InBc = refl
ldax_found _ = refl

stax_found : (x : Base) → Found (Stax x)
unfolding decoded
stax_found InBc = refl
stax_found _ = refl

rotation_found : (x : Rotation) → Found (Rotate x)
unfolding decoded
rotation_found Rlc = refl
rotation_found _ = refl

jump_if_found : (x : Condition) → Found (JumpIf x)
unfolding decoded
jump_if_found NotZero = refl
jump_if_found _ = refl

call_if_found : (x : Condition) → Found (CallIf x)
unfolding decoded
call_if_found NotZero = refl
call_if_found _ = refl

ret_if_found : (x : Condition) → Found (RetIf x)
unfolding decoded
ret_if_found NotZero = refl
ret_if_found _ = refl

rst_found : (x : Restart) → Found (Rst x)
unfolding decoded
rst_found Rst0 = refl
rst_found _ = refl

push_found : (x : Saved) → Found (Push x)
unfolding decoded
push_found BcPair = refl
push_found _ = refl

pop_found : (x : Saved) → Found (Pop x)
unfolding decoded
pop_found BcPair = refl
pop_found _ = refl

pub found : (op : Op) → Found op
unfolding decoded
found (Mov B (InRegister x)) = to_B x
found (Mov C (InRegister x)) = to_C x
found (Mov D (InRegister x)) = to_D x
found (Mov E (InRegister x)) = to_E x
found (Mov H (InRegister x)) = to_H x
found (Mov L (InRegister x)) = to_L x
found (Mov A (InRegister x)) = to_A x
found (Mov x Memory) = from_memory x
found (Accumulate Add (At (InRegister x))) = add_register x
found (Accumulate Adc (At (InRegister x))) = adc_register x
found (Accumulate Sub (At (InRegister x))) = sub_register x
found (Accumulate Sbb (At (InRegister x))) = sbb_register x
found (Accumulate Ana (At (InRegister x))) = ana_register x
found (Accumulate Xra (At (InRegister x))) = xra_register x
found (Accumulate Ora (At (InRegister x))) = ora_register x
found (Accumulate Cmp (At (InRegister x))) = cmp_register x
found (Accumulate x (At Memory)) = on_memory x
found (Accumulate x Immediate) = on_immediate x
found (Mvi (InRegister x)) = mvi_register x
found (Mvi Memory) = refl
found (Inr (InRegister x)) = inr_register x
found (Inr Memory) = refl
found (Dcr (InRegister x)) = dcr_register x
found (Dcr Memory) = refl
found (MovToMemory x) = store_found x
found (Lxi x) = lxi_found x
found (Inx x) = inx_found x
found (Dcx x) = dcx_found x
found (Dad x) = dad_found x
found (Ldax x) = ldax_found x
found (Stax x) = stax_found x
found (Rotate x) = rotation_found x
found (JumpIf x) = jump_if_found x
found (CallIf x) = call_if_found x
found (RetIf x) = ret_if_found x
found (Rst x) = rst_found x
found (Push x) = push_found x
found (Pop x) = pop_found x
found _ = refl

-- If an instruction has this opcode, it is the one that is decoded.
pub decoded_some : (op : Op) (byte : ℕ) → opcode_of op ≡ byte → decoded byte ≡ Some op
decoded_some op byte e = let P : ℕ → Type 0 = λ b. decoded b ≡ Some op in subst P e (found op)

-- If nothing is decoded, no instruction has this opcode.
pub decoded_none : (byte : ℕ) → decoded byte ≡ None → (op : Op) → opcode_of op ≢ byte
decoded_none byte e op h = let f = decoded_some op byte h in cc

-- What a part of the decoder guarantees for its byte.
abbrev pub Decodes : ℕ → Option Op → Type 0
Decodes byte r = MatchOption r (decoded byte ≡ None) (λ op. opcode_of op ≡ byte)

pub decodes_decoded : (byte : ℕ) (r : Option Op) → Decodes byte r → r ≡ decoded byte
decodes_decoded byte None h = sym h
decodes_decoded byte (Some op) h = sym (decoded_some op byte h)

pub decodes_opcode : (byte : ℕ) (r : Option Op) → Decodes byte r → MatchOption r ((op : Op) → opcode_of op ≢ byte) (λ op. opcode_of op ≡ byte)
decodes_opcode byte None h = decoded_none byte h
decodes_opcode byte (Some op) h = h

-- No two instructions have the same opcode.
pub same_opcode : (p q : Op) → opcode_of p ≡ opcode_of q → p ≡ q
same_opcode p q e = let f : decoded (opcode_of q) ≡ Some p = decoded_some p _ e in let g : decoded (opcode_of q) ≡ Some q = found q in cc

-- A byte that decodes is the opcode of the result and is not one of the twelve; a byte that does not decode is one of the
-- twelve.
abbrev agrees : ℕ → Option Op → Bool
agrees byte None = is_undefined byte
agrees byte (Some op) = opcode_of op == byte && not (is_undefined byte)

all_agree : list_all (λ byte. agrees byte (decoded byte)) (range_with_len 0 256) ≡ true
unfolding decoded
all_agree = refl

agreed : (byte : ℕ) → byte < 256 → agrees byte (decoded byte) ≡ true
agreed byte h =
    let test : ℕ → Bool = λ b. agrees b (decoded b) in
    let each = AllPass-from_list_all test (range_with_len 0 256) all_agree in
    let here : test (get_or (range_with_len 0 256) byte 0) ≡ true = All-get_or (λ b. test b ≡ true) (range_with_len 0 256) byte 0 h each in
    let P : ℕ → Type 0 = λ b. test b ≡ true in
    let same : 0 + byte ≡ byte = omega arith in
    subst P (get_or-range_with_len 0 256 byte 0 h ∙ same) here

same_number : (a b : ℕ) → (a == b) ≡ true → a ≡ b
same_number a b h = elim (eqb_tells a b) [
  | inl same ↦ same.1
  | inr other ↦ cc
]

-- Each of the twelve bytes is the opcode of no instruction.
pub none_has : (byte : ℕ) → byte < 256 → is_undefined byte ≡ true → NoneHas byte
none_has byte h u = pick (decoded byte) refl (agreed byte h) where
  pick : (o : Option Op) → decoded byte ≡ o → agrees byte o ≡ true → NoneHas byte
  pick None e a = decoded_none byte e
  pick (Some op) e a = let f = (and_parts (opcode_of op == byte) (not (is_undefined byte)) a).1 in cc

-- Each other byte is the opcode of exactly one.
pub one_has : (byte : ℕ) → byte < 256 → is_undefined byte ≡ false → OneHas byte
one_has byte h u = pick (decoded byte) refl (agreed byte h) where
  pick : (o : Option Op) → decoded byte ≡ o → agrees byte o ≡ true → OneHas byte
  pick None e a = let no : ⊥ = cc in absurd no
  pick (Some op) e a =
      let f : opcode_of op ≡ byte = same_number _ _ (and_parts (opcode_of op == byte) (not (is_undefined byte)) a).0 in
      (op, f, λ other g. same_opcode other op (g ∙ sym f))
