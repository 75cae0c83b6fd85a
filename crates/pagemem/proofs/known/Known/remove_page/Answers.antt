use Rattle.std.proofs.Common.{inl, inr, ◌≡◌, ◌<◌, ◌≤◌, ◌+◌, ◌-◌, ◌⊎◌, ℕ, Bool, true, false, sym, subst, ◌∙◌, arith}
use Rattle.std.proofs.lemmas.Bool.{cases_lt}
use Rattle.pagemem.specs.Known.{is_known}
use Rattle.pagemem.proofs.known.Known.remove_page.Goals as goal

-- A known cell is outside of the removed ones.
apart : (is : ℕ → Bool) (from : ℕ) → ((i : ℕ) → i < 256 → is (from + i) ≡ false) → (q : ℕ) → is q ≡ true → (q < from) ⊎ (from + 256 ≤ q)
apart is from inside q h = elim (cases_lt q from) [
  | inl low ↦ inl low
  | inr high ↦ elim (cases_lt q (from + 256)) [
    | inl within ↦
        let gone = subst (λ (k : ℕ). is k ≡ false) (let e : from + (q - from) ≡ q = omega (arith, high) in e) (inside (q - from) (omega (arith, high, within))) in
        let no : false ≡ true = sym gone ∙ h in absurd (let a : ⊥ = cc in a)
    | inr past ↦ inr past
  ]
]

pub returns-clause-kept : goal.returns-clause-kept
returns-clause-kept c q h =
    let k = c.remove_cells.new.self in
    sym (c.remove_cells.ensures.kept q (apart (is_known k) _ c.remove_cells.ensures.removed q h)) ∙ h

pub returns-clause-gone : goal.returns-clause-gone
returns-clause-gone c q h = apart (is_known c.remove_cells.new.self) _ c.remove_cells.ensures.removed q h
