use Rattle.std.proofs.Common.{◌≡◌, ◌≤◌, ◌<◌, ◌*◌, ◌+◌, ◌/◌, ◌∙◌, ◌⊎◌, ℕ, true, false, Option, None, is_some, inl, inr, refl, sym, ap, arith}
use Rattle.std.proofs.lemmas.Bool.{cases_lt}
use Rattle.pagemem.specs.Cells.{own_in}
use Rattle.pagemem.proofs.overlay.remove_written_in.Goals as goal

-- A cell that was written is not in a page that does not exist.
apart : (own : ℕ → Option ℕ) (page q : ℕ) → ((q : ℕ) → q / 256 ≡ page → own q ≡ None) → is_some (own q) ≡ true → (q < 256 * page) ⊎ (256 * page + 256 ≤ q)
apart own page q none some = elim (cases_lt q (256 * page)) [
  | inl low ↦ inl low
  | inr high ↦ elim (cases_lt q (256 * page + 256)) [
    | inl within ↦ let e = none q (omega (arith, high, within)) in let no : false ≡ true = sym (ap is_some e) ∙ some in absurd (let a : ⊥ = cc in a)
    | inr past ↦ inr past
  ]
]

pub returns-else-has_page-clause-gone : goal.returns-else-has_page-clause-gone
returns-else-has_page-clause-gone c q h = apart (own_in c.args.cells.now) c.args.page q (c.if-has_page.ensures refl) (c.requires.written q h)
