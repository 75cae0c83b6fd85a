use Rattle.std.proofs.Common.{◌≡◌, ◌<◌, ℕ, false, get_or}
use Rattle.keymaps.proofs.drives.first_mark.Given as goal

abbrev pub invariant-loop-drive : goal.invariant-loop-drive
invariant-loop-drive l = (d : ℕ) → d < l.drive → get_or l.marks d false ≡ false
