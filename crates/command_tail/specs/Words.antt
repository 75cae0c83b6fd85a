-- The words of a command tail, and the drive and the name in a word.
-- ([Interface Guide 1979, page zero and file control blocks]; which words give what: this project's profile.)
use Rattle.std.specs.Prelude.{ℕ, ◌-◌, ◌==◌, ◌&&◌, not, Bool, if◌then◌else◌, List, ◌∷◌, ◌++◌, take, drop, replicate, slice_index}
use Rattle.std.specs.List.{list_any, before_first, after_first, position_or_len}
use Rattle.std.specs.Char.{is_ascii_uppercase}
use Rattle.filenames.specs.Names.{is_dot, is_blank, has_drive}

-- A text without its leading blanks.
abbrev pub without_blanks : List ℕ → List ℕ
without_blanks text = drop (position_or_len (λ b. not (is_blank b)) text) text

-- The first word, which ends at a blank; empty if there is none.
abbrev pub first_word : List ℕ → List ℕ
first_word text = before_first is_blank (without_blanks text)

abbrev pub after_first_word : List ℕ → List ℕ
after_first_word text = drop (position_or_len is_blank (without_blanks text)) (without_blanks text)

abbrev pub second_word : List ℕ → List ℕ
second_word text = first_word (after_first_word text)

-- Whether a word's second byte is `:`, and its first a letter A to Z.
abbrev pub names_drive : List ℕ → Bool
names_drive word = has_drive word && is_ascii_uppercase (slice_index word 0)

-- The drive byte: 1 for A to 26 for Z, and 0 if no drive is named.
abbrev pub drive_byte : List ℕ → ℕ
drive_byte word = if names_drive word then slice_index word 0 - 64 else 0

-- The text of the name, which is after the `:`.
abbrev pub name_text : List ℕ → List ℕ
name_text word = if names_drive word then drop 2 word else word

abbrev pub is_star : ℕ → Bool
is_star b = b == 42

-- A field of n bytes with a part of a name: the rest is `?` after a `*`, else blanks. A longer part is cut.
abbrev pub field_of : ℕ → List ℕ → List ℕ
field_of n part = take n (before_first is_star part ++ replicate n (if list_any is_star part then 63 else 32))

-- The drive byte; a field of 8 bytes for the text before the first `.`, and one of 3 for the text between that and the next.
unfoldable pub drive_and_name : List ℕ → List ℕ
drive_and_name word =
    drive_byte word ∷ field_of 8 (before_first is_dot (name_text word))
    ++ field_of 3 (before_first is_dot (after_first is_dot (name_text word)))
