use Rattle.std.proofs.Common.{◌≡◌, ℕ, ◌<◌, ◌≤◌, false, is_some}
use Rattle.pagemem.specs.Overlay.{own_of}
use Rattle.accesses.proofs.ranges.is_any_written.Given as goal

abbrev pub invariant-loop-cell : goal.invariant-loop-cell
invariant-loop-cell l = (a : ℕ) → l.fn.range.first ≤ a → a < l.cell → is_some (own_of l.noted a) ≡ false
