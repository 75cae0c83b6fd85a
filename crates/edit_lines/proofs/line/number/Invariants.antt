use Rattle.std.proofs.Common.{◌≡◌, ◌<◌, ◌^◌, drop}
use Rattle.std.specs.Str.Parse.{AllDigits, digits_value, digits_value_after}
use Rattle.edit_lines.proofs.line.number.Given as goal

abbrev pub invariant-loop-i : goal.invariant-loop-i
invariant-loop-i l =
    (l.n < 10 ^ l.i)
    × (digits_value_after 10 l.n (drop l.i l.word) ≡ digits_value 10 l.word)
    × (AllDigits 10 (drop l.i l.word) → AllDigits 10 l.word)
    × (AllDigits 10 l.word → AllDigits 10 (drop l.i l.word))
