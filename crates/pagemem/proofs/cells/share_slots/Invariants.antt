use Rattle.std.proofs.Common.{◌≡◌, ◌<◌, ℕ, length, false, get_or}
use Rattle.pagemem.specs.declared.page.Slot.TheVariants.{Empty}
use Rattle.pagemem.specs.Pages.{IsNotOwned, own_at, is_owned}
use Rattle.pagemem.proofs.cells.share_slots.Given as goal

abbrev pub invariant-loop-i : goal.invariant-loop-i
invariant-loop-i l = record {
  len : length l.slots ≡ length l.fn.slots;
  shared : (j : ℕ) → j < l.i → is_owned (get_or l.slots j Empty) ≡ false;
  none : (j : ℕ) → IsNotOwned l.fn.slots j → IsNotOwned l.slots j;
  own : own_at l.slots ≡ own_at l.fn.slots;
}
