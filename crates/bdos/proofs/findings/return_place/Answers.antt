use Rattle.std.proofs.Common.{rules, refl, ap, ◌+◌, ◌%◌}
use Rattle.bdos.proofs.Chains.{cells_as, goes_back}
use Rattle.bdos.proofs.findings.return_place.Goals as goal

pub returns-clause-makes : goal.returns-clause-makes
returns-clause-makes g c script v = rw c.returned.ensures.went (cells_as script _ _ _ _ (ap (λ a. (a + 33) % 65536) c.word_of-at.ensures) c.random_bytes.ensures (goes_back _ _ _ _ _ c.returned.ensures.regs refl (search rules) (search rules) (search rules) (search rules) (search rules) (search rules) (search rules) (search rules) (λ j. refl)))
