-- `named` finds each instruction by its text, so that no two instructions have the same text.
use Rattle.std.proofs.Common.{◌≡◌, ℕ, ◌==◌, Bool, true, false, List, [], ◌∷◌, Option, Some, None, find, ap, ◌∙◌, refl, sym}
use Rattle.std.specs.List.{list_all}
use Rattle.std.proofs.lemmas.Bool.{and_parts, eqb-true}
use Rattle.i8080.specs.Opcodes.{opcode_of, decoded, instructions}
use Rattle.i8080.specs.declared.opcode.Op.{Op}
use Rattle.i8080.proofs.Decoding.{found, same_opcode}
use Rattle.mnemonics.specs.Mnemonics.{mnemonic, named}

-- What `find` finds passes a test that all elements pass.
find_passes : (test pass : Op → Bool) (ops : List Op) (op : Op) → list_all pass ops ≡ true → find test ops ≡ Some op → pass op ≡ true
find_passes test pass [] op all e = absurd (let no : ⊥ = cc in no)
find_passes test pass (first ∷ rest) op all e = pick (test first) refl (find_passes test pass rest op (and_parts (pass first) (list_all pass rest) all).1) where
  pick : (b : Bool) → test first ≡ b → (find test rest ≡ Some op → pass op ≡ true) → pass op ≡ true
  pick true h later =
      let same : Some first ≡ Some op = rw h at e in
      let here : first ≡ op = cc in
      ap pass (sym here) ∙ (and_parts (pass first) (list_all pass rest) all).0
  pick false h later = later (rw h at e)

-- The instruction that is found by its text has its opcode.
abbrev has_opcode : ℕ → Option Op → Bool
has_opcode code None = false
has_opcode code (Some op) = opcode_of op == code

all_named : list_all (λ op. has_opcode (opcode_of op) (named (mnemonic op))) instructions ≡ true
unfolding named
all_named = refl

listed : (op : Op) → find (λ other. opcode_of other == opcode_of op) instructions ≡ Some op
unfolding decoded
listed op = found op

pub named_mnemonic : (op : Op) → named (mnemonic op) ≡ Some op
named_mnemonic op =
    let passes : Op → Bool = λ other. has_opcode (opcode_of other) (named (mnemonic other)) in
    pick (named (mnemonic op)) refl (find_passes (λ other. opcode_of other == opcode_of op) passes instructions op all_named (listed op)) where
      pick : (o : Option Op) → named (mnemonic op) ≡ o → has_opcode (opcode_of op) o ≡ true → named (mnemonic op) ≡ Some op
      pick None e h = absurd (let no : ⊥ = cc in no)
      pick (Some other) e h = e ∙ ap Some (same_opcode other op (eqb-true _ _ h))

pub same_mnemonic : (p q : Op) → mnemonic p ≡ mnemonic q → p ≡ q
same_mnemonic p q e = let f : named (mnemonic p) ≡ named (mnemonic q) = ap named e in let g = named_mnemonic p in let h = named_mnemonic q in cc
