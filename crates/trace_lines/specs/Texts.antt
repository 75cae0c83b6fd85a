-- Texts with escapes, and files, in the line of a call. (This project's profile.)
use Rattle.std.specs.Prelude.{ℕ, ◌==◌, ◌&&◌, ◌||◌, Bool, false, List, [], ◌∷◌, ◌++◌, codes, flat_map, slice_index, nat_le, nat_lt, if◌then◌else◌}
use Rattle.std.specs.List.{list_all, before_first, after_first}
use Rattle.filenames.specs.Names.{Key, drive_text, is_blank, is_colon, is_dot, name_field, type_field, type_text}
use Rattle.report_lines.specs.FirstLines.{byte_text}
use Rattle.report_lines.specs.KeyDigits.{key_digits}

-- A byte of a text: `"` and `\` after a `\`, then `\r`, `\n`, `\t`, and other control bytes and those above 7EH as `\x` and two digits.
abbrev pub escaped_byte : ℕ → List ℕ
escaped_byte b =
    if b == 34 || b == 92 then 92 ∷ b ∷ []
    else if b == 13 then codes "\\r"
    else if b == 10 then codes "\\n"
    else if b == 9 then codes "\\t"
    else if nat_le 0x20 b && nat_le b 0x7e then b ∷ []
    else codes "\\x" ++ byte_text b

abbrev pub escaped : List ℕ → List ℕ
escaped bytes = flat_map escaped_byte bytes

-- A byte that a name in a text can have: printable ASCII, except blank, `.` and `:`.
abbrev pub is_plain : ℕ → Bool
is_plain b = if is_dot b || is_colon b then false else nat_le 0x21 b && nat_le b 0x7e

-- Such bytes, and after them only blanks.
abbrev pub is_plain_field : List ℕ → Bool
is_plain_field field = list_all is_plain (before_first is_blank field) && list_all is_blank (after_first is_blank field)

-- Whether a text shows each byte of a name: it is not empty, and only blanks at the ends of name and type are left out.
abbrev pub is_plain_name : Key → Bool
is_plain_name key = is_plain (slice_index key 1) && is_plain_field (name_field key) && is_plain_field (type_field key)

-- The letter of a drive before a name, unless that is A; `?:` if there is no such drive.
abbrev pub drive_part : ℕ → List ℕ
drive_part drive = if nat_lt drive 4 then drive_text drive else codes "?:"

-- A file: `NAME` or `NAME.TYP` if that shows all bytes of the name, else its bytes in digits.
abbrev pub name_text : Key → List ℕ
name_text key =
    if is_plain_name key then
    drive_part (slice_index key 0) ++ escaped (before_first is_blank (name_field key))
    ++ escaped (type_text (before_first is_blank (type_field key)))
    else key_digits key
