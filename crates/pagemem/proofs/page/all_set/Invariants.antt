use Rattle.std.proofs.Common.{◌≡◌, ◌<◌, ℕ, true, false, get_or}
use Rattle.pagemem.proofs.page.all_set.Given as goal

abbrev pub invariant-loop-i : goal.invariant-loop-i
invariant-loop-i l = record {
  set : l.is_set ≡ true → (j : ℕ) → j < l.i → get_or l.marks j false ≡ true;
  unset : ((j : ℕ) → j < l.i → get_or l.marks j false ≡ true) → l.is_set ≡ true;
}
