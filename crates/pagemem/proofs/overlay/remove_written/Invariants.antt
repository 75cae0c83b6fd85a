use Rattle.std.proofs.Common.{◌≡◌, ◌*◌, ◌≤◌, ℕ, true}
use Rattle.pagemem.specs.Known.{is_known}
use Rattle.pagemem.proofs.overlay.remove_written.Given as goal

-- The known cells are in the pages from this one on.
abbrev pub invariant-loop-page : goal.invariant-loop-page
invariant-loop-page l = (q : ℕ) → is_known l.known q ≡ true → (256 * l.page ≤ q) × (is_known l.initial.known q ≡ true)
