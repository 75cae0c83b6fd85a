use Rattle.std.proofs.Common.{◌≡◌, ◌<◌, length, codes, rules}
use Rattle.edit_lines.proofs.Grammar.{digits_of_bytes, no_digits}
use Rattle.edit_lines.proofs.line.hex_bytes.Goals as goal

pub returns-then-are_digits : goal.returns-then-are_digits
returns-then-are_digits c =
    let some : 0 < length c.args.word.now = search rules in
    let digits = rw c.if-are_digits.true at c.are_digits.ensures in
    digits_of_bytes c.args.word.now c.decode.result _ c.in-Err-OutOfMemory.is c.in-Err-OutOfMemory.field-0-is c.decode.ensures.odd some digits

pub returns-else-are_digits : goal.returns-else-are_digits
returns-else-are_digits c =
    let none = rw c.if-are_digits.false at c.are_digits.ensures in
    let dash : c.args.word.now ≡ codes "-" → ⊥ = search rules in
    no_digits c.args.word.now dash none
