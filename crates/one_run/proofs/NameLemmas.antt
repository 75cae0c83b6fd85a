-- The name that is found in a table of the code is the one of its row.
use Rattle.std.proofs.Common.{◌≡◌, ◌==◌, ℕ, true, false, List, [], ◌∷◌, Some, Bor, cond, find, map, option_map, refl}
use Rattle.one_run.specs.SystemNames.{Row, row_of}

abbrev pub TableRow : Type 0
TableRow = ℕ × Bor (List ℕ)

abbrev pub text_of : Bor (List ℕ) → List ℕ
text_of text = text.now

pub first_name : (rows : List TableRow) (key : ℕ)
    → option_map text_of (option_map (λ (row : TableRow). row.1) (find (λ (row : TableRow). row.0 == key) rows))
    ≡ option_map (λ (row : Row). row.1) (find (λ (row : Row). row.0 == key) (map row_of rows))
first_name [] key = refl
first_name (row ∷ rows) key =
    let rest = find (λ (row : TableRow). row.0 == key) rows in
    let others = find (λ (row : Row). row.0 == key) (map row_of rows) in
    elim (row.0 == key) as (λ b. option_map text_of (option_map (λ (row : TableRow). row.1) (cond b (Some row) rest)) ≡ option_map (λ (row : Row). row.1) (cond b (Some (row_of row)) others)) [
      | true ↦ refl
      | false ↦ first_name rows key
    ]
