-- Words without a meaning.
use Rattle.std.specs.Prelude.{codes, Result, Err, length, ◌%◌, ◌<◌}
use Rattle.std.proofs.Common.{◌≡◌, ℕ, List, [], ◌∷◌, inl, inr, sym, arith, rules, ◌∙◌, ◌≢◌}
use Rattle.std.proofs.lemmas.Bool.{cases_eq}
use Rattle.std.specs.List.{AllPass}
use Rattle.hex.specs.Hex.{decode_sized, is_hex_digit}
use Rattle.hex.specs.declared.error.FromHexError.TheVariants.{OddLength, OutOfMemory}
use Rattle.hex.specs.declared.error.FromHexError.{FromHexError}
use Rattle.hex.proofs.HexLemmas.{decode_of-digits, decode_of-ok, decode_sized-twice}
use Rattle.replay.specs.declared.edit.Edit.TheVariants.{Insert, Replace, Remove, Poke, SetFile}
use Rattle.edit_lines.specs.declared.line.Command.{Command}
use Rattle.edit_lines.specs.declared.line.Command.TheVariants.{Edit}
use Rattle.edit_lines.specs.EditLine.{IsAddress, IsCommand, IsHexText}

-- A word of an even number of digits is the text of some bytes.
pub digits_of_bytes : {X : Type 0} (w : List ℕ) (r : Result X FromHexError) (e : FromHexError) → r ≡ Err e → e ≡ OutOfMemory
    → (length w % 2 ≡ 1 → r ≡ Err OddLength) → 0 < length w → AllPass is_hex_digit w → (bytes : List ℕ) × IsHexText w bytes × (0 < length bytes)
digits_of_bytes w r e is memory odd some digits =
    let even : length w % 2 ≡ 0 = elim (cases_eq (length w % 2) 1) [
      | inl one ↦ let other = odd one in absurd (cc)
      | inr not_one ↦ omega arith
    ] in
    let found = decode_of-digits w even digits in
    let size = (decode_of-ok w found.0 found.1).2 in
    (found.0, inr (some, found.1), omega (arith, some, size))

-- A word that is not all digits is the text of no bytes.
pub no_digits : (w : List ℕ) → (w ≡ codes "-" → ⊥) → (AllPass is_hex_digit w → ⊥) → (bytes : List ℕ) → IsHexText w bytes → ⊥
no_digits w dash none bytes (inl p) = dash p.0
no_digits w dash none bytes (inr p) = none (decode_of-ok w bytes p.1).1

-- If a word is the text of no bytes, then a command that names bytes has not this last word.
pub no_bytes : (verb first last : List ℕ) → ((bytes : List ℕ) → IsHexText last bytes → ⊥) → verb ≢ codes "remove"
    → (c : Command) → IsCommand (verb ∷ first ∷ last ∷ []) c → ⊥
no_bytes verb first last none other (Edit (Insert n bytes)) p = none bytes p.2
no_bytes verb first last none other (Edit (Replace n bytes)) p = none bytes p.2
no_bytes verb first last none other (Edit (Remove n count)) p = other p.0
no_bytes verb first last none other (Edit (Poke a bytes)) p = none bytes p.2
no_bytes verb first last none other (Edit (SetFile key bytes)) p = none bytes p.2
no_bytes verb first last none other c p = p

pub no_address : (at hex : List ℕ) → ((a : ℕ) → IsAddress at a → ⊥) → (c : Command) → IsCommand (codes "poke" ∷ at ∷ hex ∷ []) c → ⊥
no_address at hex none (Edit (Poke a bytes)) p = none a p.1
no_address at hex none c p = search rules

-- A word that does not decode to two bytes is no address.
pub not_sized : (w : List ℕ) (e : FromHexError) → decode_sized w 2 ≡ Err e → (a : ℕ) → IsAddress w a → ⊥
not_sized w e h a p =
    let whole = decode_sized-twice w 2 (decode_of-ok w _ p.2).2 in
    let same = sym h ∙ whole ∙ p.2 in
    cc

-- A line has at most one command.
pub one_command : (words : List (List ℕ)) (c d : Command) → IsCommand words c → IsCommand words d → c ≡ d
one_command words c d p q = search rules
