use Rattle.std.proofs.Common.{◌≡◌, ◌<◌, ◌==◌, ℕ, not, false, get_or}
use Rattle.command_tail.proofs.word.without_blanks.Given as goal

abbrev pub invariant-loop-start : goal.invariant-loop-start
invariant-loop-start l = (k : ℕ) → k < l.start → not (get_or l.text k 0 == 32) ≡ false
