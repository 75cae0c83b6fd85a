-- Each text before the operand is in the table at its opcode.
use Rattle.std.proofs.Common.{◌≡◌, ◌<◌, ℕ, ◌+◌, List, [], map, get_or, Bor, sym, ap, ◌∙◌, arith}
use Rattle.std.proofs.Math.ListN.{get_or-map}
use Rattle.std.proofs.lemmas.List.FromFn.{get_or-map-range_with_len}
use Rattle.i8080.specs.Opcodes.{decoded}
use Rattle.mnemonics.specs.Mnemonics.{opening_text, openings}

pub entry_at : (table : List (Bor (List ℕ))) (other : Bor (List ℕ)) (index opcode : ℕ) → map (λ t. t.now) table ≡ openings → other.now ≡ []
    → index ≡ opcode → opcode < 256 → (get_or table index other).now ≡ opening_text (decoded opcode)
entry_at table other index opcode all none same below =
    let now : Bor (List ℕ) → List ℕ = λ t. t.now in
    let within : index < 256 = omega arith in
    let here : 0 + index ≡ opcode = omega arith in
    sym (get_or-map now table index other)
    ∙ ap (λ texts. get_or texts index other.now) all
    ∙ get_or-map-range_with_len (λ b. opening_text (decoded b)) 0 256 index opcode other.now within here
