-- The command of a line of an edit text: `insert AT HEX`, `replace AT HEX`, `remove AT COUNT`, `poke ADDR HEX`, `file NAME HEX`,
-- `gone NAME`, `limit N`, `drop N`, `run`. (This project's own.)
use Rattle.std.specs.Prelude.{◌≡◌, ℕ, ◌+◌, ◌*◌, ◌<◌, ◌≤◌, ◌⊎◌, List, [], ◌∷◌, length, codes, Ok}
use Rattle.std.specs.Str.Parse.{IsNumeral, digits_value}
use Rattle.hex.specs.Hex.{decode_of}
use Rattle.filenames.specs.Names.{Key, name_of}
use Rattle.replay.specs.declared.edit.Edit.TheVariants.{Insert, Replace, Remove, Poke, SetFile, RemoveFile, SetLimit}
use Rattle.edit_lines.specs.declared.line.Command.{Command}
use Rattle.edit_lines.specs.declared.line.Command.TheVariants.{Edit, Run, DropOldest}
use Rattle.edit_lines.specs.Pieces.{words_of}

-- One to ten decimal digits.
abbrev pub IsNumber : List ℕ → ℕ → Type 0
IsNumber word n = IsNumeral 10 word × (length word ≤ 10) × (digits_value 10 word ≡ n)

-- Four hexadecimal digits, in either case, the high byte first.
abbrev pub IsAddress : List ℕ → ℕ → Type 0
IsAddress word a = (high : ℕ) × (low : ℕ) × (decode_of word ≡ Ok (high ∷ low ∷ [])) × (a ≡ 256 * high + low)

-- `-` for no byte, or two hexadecimal digits for each of one byte or more.
abbrev pub IsHexText : List ℕ → List ℕ → Type 0
IsHexText word bytes = ((word ≡ codes "-") × (bytes ≡ [])) ⊎ ((0 < length word) × (decode_of word ≡ Ok bytes))

-- A word that is the name of a key.
abbrev pub IsName : List ℕ → Key → Type 0
IsName word key = name_of word ≡ Ok key

-- The command of these words, one case for each command.
abbrev pub IsCommand : List (List ℕ) → Command → Type 0
IsCommand (verb ∷ at ∷ hex ∷ []) (Edit (Insert n bytes)) = (verb ≡ codes "insert") × IsNumber at n × IsHexText hex bytes
IsCommand (verb ∷ at ∷ hex ∷ []) (Edit (Replace n bytes)) = (verb ≡ codes "replace") × IsNumber at n × IsHexText hex bytes
IsCommand (verb ∷ at ∷ count ∷ []) (Edit (Remove n k)) = (verb ≡ codes "remove") × IsNumber at n × IsNumber count k
IsCommand (verb ∷ addr ∷ hex ∷ []) (Edit (Poke a bytes)) = (verb ≡ codes "poke") × IsAddress addr a × IsHexText hex bytes
IsCommand (verb ∷ name ∷ hex ∷ []) (Edit (SetFile key bytes)) = (verb ≡ codes "file") × IsName name key × IsHexText hex bytes
IsCommand (verb ∷ name ∷ []) (Edit (RemoveFile key)) = (verb ≡ codes "gone") × IsName name key
IsCommand (verb ∷ limit ∷ []) (Edit (SetLimit n)) = (verb ≡ codes "limit") × IsNumber limit n
IsCommand (verb ∷ count ∷ []) (DropOldest n) = (verb ≡ codes "drop") × IsNumber count n
IsCommand (verb ∷ []) Run = verb ≡ codes "run"
IsCommand words command = ⊥

abbrev pub EditLine : List ℕ → Command → Type 0
EditLine line command = IsCommand (words_of line) command
