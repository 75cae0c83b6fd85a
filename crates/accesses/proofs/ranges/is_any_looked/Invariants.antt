use Rattle.std.proofs.Common.{◌≡◌, ℕ, ◌<◌, ◌≤◌, false}
use Rattle.i8080.specs.Memory.{is_among}
use Rattle.pagemem.specs.Overlay.{looks_of}
use Rattle.accesses.proofs.ranges.is_any_looked.Given as goal

abbrev pub invariant-loop-cell : goal.invariant-loop-cell
invariant-loop-cell l = (a : ℕ) → l.fn.range.first ≤ a → a < l.cell → is_among a (looks_of l.noted) ≡ false
