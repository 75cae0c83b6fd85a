-- The desk: the cursor of the script, the text and the column of the console, the buffer address, the current drive, and where a
-- search of the directory continues. ([Interface Guide 1979, functions 1, 2, 9, 14, 17 and 26]; the cursor, the text, the rules of
-- the column, and what is kept of a search: this project's profile.)
use Rattle.std.specs.Prelude.{ℕ, ◌+◌, ◌-◌, ◌%◌, ◌==◌, ◌||◌, Bool, nat_le, nat_lt, if◌then◌else◌, List, [], ◌∷◌, ◌++◌, replicate, None}
use Rattle.filenames.specs.declared.drive.Drive.TheVariants.{A}
use Rattle.console_calls.specs.declared.desk.Spot.{Spot}

-- The spot, and all bytes sent to the console.
pub record Desk : Type 0 where
  pub spot : Spot
  pub text : List ℕ

-- The desk at the start: nothing taken and nothing sent, the buffer in page zero, at 0080H, A the current drive, and no search.
-- [Interface Guide 1979, functions 14, 17 and 26]
abbrev pub first_desk : Desk
first_desk = record { spot = record { cursor = 0; column = 0; buffer = 0x80; drive = A; search = None }; text = [] }

-- The column after a byte: 0 after a carriage return, one less after a backspace, unchanged after any other control byte.
abbrev pub column_after : ℕ → ℕ → ℕ
column_after column byte =
    if byte == 0x0d then 0
    else if byte == 0x08 then column - 1
    else if nat_lt byte 0x20 || byte == 0x7f then column
    else column + 1

-- The column after bytes, one after another.
abbrev pub column_after_all : ℕ → List ℕ → ℕ
column_after_all column [] = column
column_after_all column (byte ∷ rest) = column_after_all (column_after column byte) rest

-- Bytes that are sent, and the column after them.
pub record ConsoleText : Type 0 where
  pub bytes : List ℕ
  pub column : ℕ

-- A byte sent at a column.
abbrev pub sent_byte : ℕ → ℕ → ConsoleText
sent_byte column byte = record { bytes = byte ∷ []; column = column_after column byte }

-- Blanks, at least one, up to the next column that is a multiple of 8. (Tabs are expanded: [Interface Guide 1979, function 2])
abbrev pub tab_blanks : ℕ → ConsoleText
tab_blanks column = let blanks = 8 - column % 8 in record { bytes = replicate blanks 0x20; column = column + blanks }

-- A byte printed at a column.
abbrev pub printed_byte : ℕ → ℕ → ConsoleText
printed_byte column byte = if byte == 0x09 then tab_blanks column else sent_byte column byte

-- Whether function 1 echoes the byte that it takes. [Interface Guide 1979, function 1]
abbrev pub is_echoed : ℕ → Bool
is_echoed byte = nat_le 0x20 byte || byte == 0x08 || byte == 0x09 || byte == 0x0a || byte == 0x0d

-- What function 1 prints for the byte that it takes.
abbrev pub echoed_byte : ℕ → ℕ → ConsoleText
echoed_byte column byte = if is_echoed byte then printed_byte column byte else record { bytes = []; column = column }

-- One after the other: the bytes of the first, and then of the second.
abbrev pub joined_text : ConsoleText → ConsoleText → ConsoleText
joined_text s t = record { bytes = s.bytes ++ t.bytes; column = t.column }

-- Bytes printed from a column on.
abbrev pub printed_bytes : ℕ → List ℕ → ConsoleText
printed_bytes column [] = record { bytes = []; column = column }
printed_bytes column (byte ∷ rest) = joined_text (printed_byte column byte) (printed_bytes (printed_byte column byte).column rest)

-- The spot after these bytes were sent.
abbrev pub spot_showing : Spot → ConsoleText → Spot
spot_showing spot s = record spot { column = s.column }
