use Rattle.std.proofs.Common.{inl, inr, ◌≡◌, ◌≢◌, ◌+◌, ℕ, false, subst, arith}
use Rattle.std.proofs.lemmas.Bool.Decides.{eqb_tells}
use Rattle.std.proofs.lemmas.Bool.{cases_lt}
use Rattle.pagemem.specs.Known.{is_known}
use Rattle.pagemem.proofs.known.Known.remove.Goals as goal

pub returns-clause-marks : goal.returns-clause-marks
returns-clause-marks c q = let k = c.remove_cells.new.self in elim (eqb_tells q c.args.a) [
  | inl same ↦ rw same.0 (subst (λ (p : ℕ). is_known k p ≡ false) (let e : c.args.a + 0 ≡ q = omega (arith, same.1) in e) (c.remove_cells.ensures.removed 0 (omega arith)))
  | inr other ↦ rw other.0 (c.remove_cells.ensures.kept q (elim (cases_lt q c.args.a) [ inl low ↦ inl low | inr high ↦ inr (let apart : q ≢ c.args.a = other.1 in omega (arith, high, apart)) ]))
]
