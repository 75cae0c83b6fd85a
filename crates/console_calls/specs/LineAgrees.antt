-- How the line that the code takes from a script agrees with its definition. (This project's own.)
use Rattle.std.specs.Prelude.{◌≡◌, ℕ, suc, ◌+◌, List, length, ◌≤◌, ◌<◌}
use Rattle.interaction_trees.specs.Tree.{result_of, questions_of}
use Rattle.i8080.specs.Memory.{is_among}
use Rattle.console_calls.specs.declared.line.LineEnd.{LineEnd}
use Rattle.console_calls.specs.declared.line.LineEnd.TheVariants as code
use Rattle.console_calls.specs.declared.line.LineStep.{LineStep}
use Rattle.console_calls.specs.declared.line.LineStep.TheVariants as took
use Rattle.console_calls.specs.ScriptLooks.{is_ahead}
use Rattle.console_calls.specs.StateQuestions.{answers, script_offsets}
use Rattle.console_calls.specs.Line.{Line, Goes, Ends, Boots, Ended, Booted, Short, no_line, line_tree}
use Rattle.console_calls.specs.Line as line

-- What a byte does to a line.
abbrev pub line_step_of : LineStep → Line → line.LineStep
line_step_of took.Goes l = Goes l
line_step_of took.Ends l = Ends l
line_step_of took.Boots l = Boots

-- How a line ended whose first byte is at offset `k`.
abbrev pub end_from : ℕ → LineEnd → line.LineEnd
end_from k (code.Ended l n) = Ended l (k + n)
end_from k (code.Booted n) = Booted
end_from k (code.Short n) = Short

-- The number of offsets that were looked at.
abbrev pub look_count_of : LineEnd → ℕ
look_count_of (code.Ended l n) = n
look_count_of (code.Booted n) = n
look_count_of (code.Short n) = n

-- The line from offset `k` on, over a script of at most n bytes.
pub record IsLineOf (script : List ℕ) (capacity k : ℕ) (e : LineEnd) (byte : ℕ → ℕ) (n : ℕ) : Type 0 where
  pub ends : result_of (answers byte script) (line_tree (suc n) capacity k no_line) ≡ end_from k e
  pub offsets : (j : ℕ) → is_among j (script_offsets (questions_of (answers byte script) (line_tree (suc n) capacity k no_line))) ≡ is_ahead k (look_count_of e) j

-- The line from offset `k` on, with any memory, over any script of at most n bytes.
abbrev pub TakesLine : List ℕ → ℕ → ℕ → LineEnd → Type 0
TakesLine script capacity k e = (byte : ℕ → ℕ) (n : ℕ) → length script ≤ n → IsLineOf script capacity k e byte n

-- A line that ended has at most `capacity` bytes, and the offset after it is in range.
abbrev pub FitsIn : ℕ → ℕ → LineEnd → Type 0
FitsIn capacity k (code.Ended l n) = (length l.stored ≤ capacity) × (k + n < 9223372036854775808)
FitsIn capacity k (code.Booted n) = Unit {0}
FitsIn capacity k (code.Short n) = Unit {0}
