use Rattle.std.proofs.Common.{◌≡◌, vec_len}
use Rattle.pagemem.specs.Pages.{SameOwn, SameOwned}
use Rattle.pagemem.proofs.cells.copied_slots.Given as goal

abbrev pub invariant-loop-slot : goal.invariant-loop-slot
invariant-loop-slot l = record { len : vec_len l.copies ≡ l.slot-index; same : SameOwn l.slot-index l.copies.items l.slots; owned : SameOwned l.slot-index l.copies.items l.slots }
