-- Names of files. ([Interface Guide 1979, file names]: a drive, a name of up to 8 bytes, and a type of up to 3; which bytes
-- they may have, the four drives, and which refusal comes first: this project's profile.)
use Rattle.std.specs.Prelude.{◌≡◌, ℕ, ◌+◌, ◌-◌, ◌==◌, ◌&&◌, ◌||◌, Bool, true, if◌then◌else◌, nat_lt, nat_le, List, [], ◌∷◌, ◌++◌, length, map, take, drop, replicate, slice_index, Result, Ok, Err, Option, Some, None}
use Rattle.std.specs.List.{list_all, before_first, after_first}
use Rattle.std.specs.Char.{to_ascii_uppercase, is_ascii_uppercase, is_ascii_digit}

-- A file's drive, and the eleven bytes of its name and type.
abbrev pub Key : Type 0
Key = List ℕ

abbrev pub is_dot : ℕ → Bool
is_dot b = b == 46

abbrev pub is_colon : ℕ → Bool
is_colon b = b == 58

abbrev pub is_blank : ℕ → Bool
is_blank b = b == 32

-- A byte of a name, in upper case: A to Z, 0 to 9, `$`, `#`, `@`, `-`, `_`.
abbrev pub is_allowed : ℕ → Bool
is_allowed b = is_ascii_uppercase b || is_ascii_digit b || b == 36 || b == 35 || b == 64 || b == 45 || b == 95

-- A text padded to n bytes with blanks.
abbrev pub padded : ℕ → List ℕ → List ℕ
padded n text = text ++ replicate (n - length text) 32

-- The key of a name and a type on a drive, in upper case.
abbrev pub key_of : ℕ → List ℕ → List ℕ → Key
key_of drive name kind = drive ∷ padded 8 (map to_ascii_uppercase name) ++ padded 3 (map to_ascii_uppercase kind)

abbrev pub is_valid : List ℕ → Bool
is_valid text = list_all is_allowed (map to_ascii_uppercase text)

-- The key of a name and a type on a drive, or the number of the first refusal that applies.
unfoldable pub key_or_refusal : ℕ → List ℕ → List ℕ → Result Key ℕ
key_or_refusal drive name kind =
    if length name == 0 then Err 1
    else if nat_lt 8 (length name) || nat_lt 3 (length kind) then Err 2
    else if is_valid name && is_valid kind then Ok (key_of drive name kind)
    else Err 3

-- The key of a text on a drive, or a refusal: the name is before the first `.`, and the type is after it.
abbrev pub name_without_drive : ℕ → List ℕ → Result Key ℕ
name_without_drive drive text = key_or_refusal drive (before_first is_dot text) (after_first is_dot text)

-- The drive with a letter A to D, in either case.
abbrev pub drive_of : ℕ → Option ℕ
drive_of letter = if nat_le 65 (to_ascii_uppercase letter) && nat_le (to_ascii_uppercase letter) 68 then Some (to_ascii_uppercase letter - 65) else None

abbrev pub name_on_drive : Option ℕ → List ℕ → Result Key ℕ
name_on_drive None text = Err 4
name_on_drive (Some drive) text = name_without_drive drive text

-- Whether the second byte of a text is `:`.
abbrev pub has_drive : List ℕ → Bool
has_drive text = nat_lt 1 (length text) && is_colon (slice_index text 1)

-- The key of a text, or the number of its refusal. Without a letter and `:`, the drive is A.
unfoldable pub name_of : List ℕ → Result Key ℕ
name_of text = if has_drive text then name_on_drive (drive_of (slice_index text 0)) (drop 2 text) else name_without_drive 0 text

-- ---- valid keys

-- Bytes of a name, and after them only blanks.
abbrev pub is_field : List ℕ → Bool
is_field [] = true
is_field (b ∷ bs) = if is_allowed b then is_field bs else list_all is_blank (b ∷ bs)

abbrev pub name_field : Key → List ℕ
name_field key = take 8 (drop 1 key)

abbrev pub type_field : Key → List ℕ
type_field key = take 3 (drop 9 key)

-- Whether a key is valid: it is the key of a name.
unfoldable pub is_sayable : Key → Bool
is_sayable key = nat_lt (slice_index key 0) 4 && is_allowed (slice_index key 1) && is_field (name_field key) && is_field (type_field key)

-- ---- printed names

abbrev pub drive_text : ℕ → List ℕ
drive_text drive = if drive == 0 then [] else (65 + drive) ∷ 58 ∷ []

-- The dot before a type, and a type after its dot.
abbrev pub dot_text : List ℕ → List ℕ
dot_text [] = []
dot_text (b ∷ bs) = 46 ∷ []

abbrev pub type_text : List ℕ → List ℕ
type_text [] = []
type_text (b ∷ bs) = 46 ∷ b ∷ bs

-- A printed name: `NAME` or `NAME.TYP`, with a letter and `:` on drives B to D.
unfoldable pub display_text : Key → List ℕ
display_text key = drive_text (slice_index key 0) ++ before_first is_blank (name_field key) ++ type_text (before_first is_blank (type_field key))

-- A valid key of twelve bytes is the key of its printed text.
abbrev pub ParsesBack : Type 0
ParsesBack = (key : Key) → length key ≡ 12 → is_sayable key ≡ true → name_of (display_text key) ≡ Ok key

-- The key of a text that is a name has twelve bytes and is valid.
abbrev pub NamesAreSayable : Type 0
NamesAreSayable = (text : List ℕ) (key : Key) → name_of text ≡ Ok key → (length key ≡ 12) × (is_sayable key ≡ true)
