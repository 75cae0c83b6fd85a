-- What a program can call that is not here: each entry of the BIOS's jump table, by its address, and each call of CP/M 2.2, by its
-- number. (CP/M 2.2 Alteration Guide, section 6, the jump vector; [Interface Guide 1979, system function summary]; where the table is, and
-- which calls are here: this project's profile.)
use Rattle.std.specs.Prelude.{ℕ, ◌==◌, List, [], ◌∷◌, ◌++◌, Option, codes, find}
use Rattle.std.specs.Borrow.{Bor}
use Rattle.std.specs.Option.{option_map, option_map_or}

abbrev pub Row : Type 0
Row = ℕ × List ℕ

abbrev pub rows : List Row
rows =
    (0xff00, codes "cold start") ∷ (0xff03, codes "warm start") ∷ (0xff06, codes "console status") ∷ (0xff09, codes "console input")
    ∷ (0xff0c, codes "console output") ∷ (0xff0f, codes "list output") ∷ (0xff12, codes "punch output") ∷ (0xff15, codes "reader input")
    ∷ (0xff18, codes "move to track 0") ∷ (0xff1b, codes "select disk") ∷ (0xff1e, codes "set track") ∷ (0xff21, codes "set sector")
    ∷ (0xff24, codes "set DMA address") ∷ (0xff27, codes "read sector") ∷ (0xff2a, codes "write sector") ∷ (0xff2d, codes "list status")
    ∷ (0xff30, codes "sector translation") ∷ (3, codes "reader input") ∷ (4, codes "punch output") ∷ (5, codes "list output")
    ∷ (27, codes "address of the allocation vector") ∷ (28, codes "write protect disk") ∷ (29, codes "get read/only vector")
    ∷ (30, codes "set file attributes") ∷ (31, codes "address of the disk parameters") ∷ (32, codes "set/get user code")
    ∷ (37, codes "reset drive") ∷ []

unfoldable pub name_of : ℕ → Option (List ℕ)
name_of key = option_map (λ row. row.1) (find (λ row. row.0 == key) rows)

-- A name and what comes after it, or another text if there is no name.
abbrev pub name_text : ℕ → List ℕ → List ℕ → List ℕ
name_text key after other = option_map_or (λ name. name ++ after) (name_of key) other

-- A row of a table in the code.
abbrev pub row_of : ℕ × Bor (List ℕ) → Row
row_of row = (row.0, row.1.now)
