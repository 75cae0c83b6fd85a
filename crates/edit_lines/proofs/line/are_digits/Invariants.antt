use Rattle.std.proofs.Common.{◌≡◌, ℕ, ◌<◌, slice_index_or, true}
use Rattle.hex.specs.Hex.{is_hex_digit}
use Rattle.edit_lines.proofs.line.are_digits.Given as goal

-- The bytes before this index are digits.
abbrev pub invariant-loop-i : goal.invariant-loop-i
invariant-loop-i l = (k d : ℕ) → k < l.i → is_hex_digit (slice_index_or l.word k d) ≡ true
