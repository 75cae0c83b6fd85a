use Rattle.std.proofs.Common.{◌≡◌, ◌-◌, ◌≤◌, ◌<◌, ℕ, length, get_or}
use Rattle.i8080.specs.Registers.{onward}
use Rattle.pagemem.specs.ImageView.{cells_of}
use Rattle.pagemem.specs.Known.{IsKnownCell}
use Rattle.pagemem.specs.Overlay.{own_of, looks_of}
use Rattle.pagemem.proofs.overlay.Overlay.seen_in_pages.Given as goal

abbrev pub invariant-loop-copied : goal.invariant-loop-copied
invariant-loop-copied l = record {
  within : l.copied ≤ length l.cells;
  address : l.address ≡ onward l.at l.copied;
  known : (i : ℕ) → i < l.copied → IsKnownCell (own_of l.self) (cells_of l.image) (looks_of l.self) (onward l.at i) (get_or l.cells i 0);
}

abbrev pub decreases-loop-copied : goal.decreases-loop-copied
decreases-loop-copied l = length l.cells - l.copied
