-- A script as typed text: each byte is itself, unless a backslash is before it. (This project's profile; the letters are as in C and
-- Rust.)
use Rattle.std.specs.Prelude.{◌≡◌, ◌≢◌, ◌==◌, ◌-◌, ℕ, Bool, false, List, [], ◌∷◌, ◌++◌, Option, Some, None, Result, Ok, if◌then◌else◌, drop, length, option_map, slice_get, take}
use Rattle.std.specs.Option.{option_map_or}
use Rattle.hex.specs.Hex.{decode_sized}
use Rattle.hex.specs.declared.error.FromHexError.{FromHexError}

-- The byte of these digits, and the text after them.
abbrev pub byte_before : Result (List ℕ) FromHexError → List ℕ → Option (ℕ × List ℕ)
byte_before (Ok (byte ∷ [])) text = Some (byte, text)
byte_before digits text = None

-- The byte of the two hexadecimal digits with which a text begins, and the text after them.
abbrev pub by_digits : List ℕ → Option (ℕ × List ℕ)
by_digits text = byte_before (decode_sized (take 2 text) 1) (drop 2 text)

-- The byte of a letter after a backslash: `r`, `n`, `t`, and the backslash itself.
abbrev pub letter_byte : ℕ → Option ℕ
letter_byte c = if c == 114 then Some 13 else if c == 110 then Some 10 else if c == 116 then Some 9 else if c == 92 then Some 92 else None

-- The byte of the text after a backslash, where `x` is before two digits, and the text after it.
abbrev pub escaped : List ℕ → Option (ℕ × List ℕ)
escaped [] = None
escaped (c ∷ text) = if c == 120 then by_digits text else option_map (λ byte. (byte, text)) (letter_byte c)

-- The first byte of a text, and the text after it. There is none if the text is empty, or if no such letter follows a backslash.
abbrev pub first_typed : List ℕ → Option (ℕ × List ℕ)
first_typed [] = None
first_typed (c ∷ text) = if c == 92 then escaped text else Some (c, text)

-- A text gives these bytes, up to this rest of it.
abbrev pub Gives : List ℕ → List ℕ → List ℕ → Type 0
Gives text [] rest = text ≡ rest
Gives text (byte ∷ bytes) rest = (next : List ℕ) × (first_typed text ≡ Some (byte, next)) × Gives next bytes rest

-- Bytes with a carriage return at the end, which is added unless it is there.
abbrev pub ends_line : List ℕ → Bool
ends_line bytes = option_map_or (λ last. last == 13) (slice_get bytes (length bytes - 1)) false

abbrev pub as_line : List ℕ → List ℕ
as_line bytes = if ends_line bytes then bytes else bytes ++ 13 ∷ []

-- The script of a text: all of its bytes, as a line.
pub record IsTyped (text script : List ℕ) : Type 0 where
  pub bytes : List ℕ
  pub gives : Gives text bytes []
  pub is : script ≡ as_line bytes

-- A text has a backslash that no such letter follows.
pub record HasBadEscape (text : List ℕ) : Type 0 where
  pub bytes : List ℕ
  pub rest : List ℕ
  pub gives : Gives text bytes rest
  pub left : rest ≢ []
  pub bad : first_typed rest ≡ None
