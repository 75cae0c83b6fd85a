use Rattle.std.proofs.Common.{◌≡◌, ◌<◌, List, [], ◌∷◌, ℕ, length, arith, rules}
use Rattle.edit_lines.specs.Progress.{none}
use Rattle.edit_lines.proofs.Stepping.{last_executed}
use Rattle.edit_lines.proofs.stream.finish.Goals as goal

empty_list : (l : List ℕ) → length l ≡ 0 → l ≡ []
empty_list [] h = cc
empty_list (b ∷ l) h = absurd (omega arith)

pub returns-then-is_empty-clause-ok : goal.returns-then-is_empty-clause-ok
returns-then-is_empty-clause-ok g c =
    let no_byte : length c.args.buffer.now.line.items ≡ 0 = search rules in
    rw (empty_list _ no_byte) (omega arith, none)

pub returns-clause-ok : goal.returns-clause-ok
returns-clause-ok g c =
    let b = c.args.buffer.now in
    let some : 0 < length b.line.items = search rules in
    last_executed _ _ _ _ b.line.items some (omega (arith, b.short, b.line.ok.0)) c.in_ok-end_line.ensures.next.0 c.in_ok-end_line.ensures.does
