-- The line that function 10 takes from the script, and what is sent for it. ([Interface Guide 1979, function 10]; what each
-- control byte sends and stores, and how a line ends or falls short: this project's profile.)
use Rattle.std.specs.Prelude.{ℕ, zero, suc, ◌+◌, ◌==◌, ◌&&◌, ◌||◌, Bool, true, false, if◌then◌else◌, nat_lt, List, [], ◌∷◌, ◌++◌, length, Option, Some, None}
use Rattle.interaction_trees.specs.Tree.{Return, Query}
use Rattle.console_calls.specs.StateQuestions.{Input, StateTree}

-- The bytes that are stored, the last one first, and the bytes that are sent.
pub record Line : Type 0 where
  pub stored : List ℕ
  pub sends : List ℕ

abbrev pub no_line : Line
no_line = record { stored = []; sends = [] }

-- What a byte does to a line: the line continues, it ends, or the byte is a warm boot.
pub data LineStep : Type 0 where
  Goes : Line → LineStep
  Ends : Line → LineStep
  Boots : LineStep

-- The bytes that are sent for a byte when it is stored.
abbrev pub echo_of : ℕ → List ℕ
echo_of byte = if nat_lt byte 0x20 then 0x5e ∷ (byte + 0x40) ∷ [] else byte ∷ []

abbrev pub line_with_byte : ℕ → Line → Line
line_with_byte byte l = record { stored = byte ∷ l.stored; sends = l.sends ++ echo_of byte }

-- The line without its last byte, for a backspace: a backspace, a blank and a backspace are sent.
abbrev pub line_after_backspace : List ℕ → Line → Line
line_after_backspace [] l = l
line_after_backspace (last ∷ rest) l = record { stored = rest; sends = l.sends ++ 0x08 ∷ 0x20 ∷ 0x08 ∷ [] }

-- The line without its last byte, for a rubout: what was sent for that byte is sent again.
abbrev pub line_after_rubout : List ℕ → Line → Line
line_after_rubout [] l = l
line_after_rubout (last ∷ rest) l = record { stored = rest; sends = l.sends ++ echo_of last }

abbrev pub is_empty : List ℕ → Bool
is_empty [] = true
is_empty (b ∷ rest) = false

abbrev pub type_byte : Line → ℕ → LineStep
type_byte l byte =
    if byte == 0x0d || byte == 0x0a then Ends (record { stored = l.stored; sends = l.sends ++ 0x0d ∷ [] })
    else if byte == 0x08 then Goes (line_after_backspace l.stored l)
    else if byte == 0x7f then Goes (line_after_rubout l.stored l)
    else if byte == 0x03 && is_empty l.stored then Boots
    else Goes (line_with_byte byte l)

-- How a line ended: before an offset of the script, with a warm boot, or because the script ended first.
pub data LineEnd : Type 0 where
  Ended : Line → ℕ → LineEnd
  Booted : LineEnd
  Short : LineEnd

abbrev pub line_after_step : (Line → StateTree LineEnd) → ℕ → LineStep → StateTree LineEnd
line_after_step more k (Goes l) = more l
line_after_step more k (Ends l) = Return (Ended l (k + 1))
line_after_step more k Boots = Return Booted

abbrev pub line_after_answer : (Line → StateTree LineEnd) → ℕ → Line → Option ℕ → StateTree LineEnd
line_after_answer more k l None = Return Short
line_after_answer more k l (Some byte) = line_after_step more k (type_byte l byte)

-- The line of at most `capacity` bytes that the script's bytes from offset `k` on make, after a line so far. At most n bytes are
-- asked for, because a tree is finite; a script of fewer than n bytes ends before that.
unfoldable pub line_tree : ℕ → ℕ → ℕ → Line → StateTree LineEnd
line_tree zero capacity k l = Return Short
line_tree (suc n) capacity k l = if nat_lt (length l.stored) capacity then Query (Input k) (line_after_answer (line_tree n capacity (k + 1)) k l) else Return (Ended l k)
