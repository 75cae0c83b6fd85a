use Rattle.std.proofs.Common.{◌≡◌, ◌+◌, ◌<◌, ℕ, true, false, get_or}
use Rattle.pagemem.specs.Pages.{page_own, IsLaid}
use Rattle.pagemem.proofs.page.Page.copy_over.Given as goal

abbrev pub invariant-loop-i : goal.invariant-loop-i
invariant-loop-i l = l.is_known ≡ true → (j : ℕ) → j < l.i → IsLaid (page_own l.self (l.from + j)) (get_or l.beneath j 0) (get_or l.marks j false) (get_or l.cells j 0)
