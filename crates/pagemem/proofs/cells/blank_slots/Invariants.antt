use Rattle.std.proofs.Common.{◌≡◌, replicate, vec_len}
use Rattle.pagemem.specs.declared.page.Slot.TheVariants.{Empty}
use Rattle.pagemem.proofs.cells.blank_slots.Given as goal

abbrev pub invariant-loop-i : goal.invariant-loop-i
invariant-loop-i l = record { len : vec_len l.slots ≡ l.i; items : l.slots.items ≡ replicate l.i Empty }
