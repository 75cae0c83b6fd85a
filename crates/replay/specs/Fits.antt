-- The length of a text that is kept. (This project's own.)
use Rattle.std.specs.Prelude.{ℕ, Option, Some, None}
use Rattle.machine.specs.SavedState.{SavedState}

-- The number of bytes of the text that belong to a kept state, 0 without one.
abbrev pub kept_length : Option SavedState → ℕ
kept_length None = 0
kept_length (Some kept) = kept.length
