use Rattle.std.proofs.Common.{inl, inr, ◌≡◌, ◌*◌, ◌/◌, ◌∙◌, ℕ, IsTrue, true, false, sym, subst, arith}
use Rattle.std.proofs.lemmas.Bool.{cases_Bool}
use Rattle.std.proofs.lemmas.Result.{err_from_is_err_and}
use Rattle.pagemem.specs.Pages.{is_owned_at}
use Rattle.pagemem.proofs.cells.share_slots.Goals as goal

pub returns-in_err-make_shared-clause-refused : goal.returns-in_err-make_shared-clause-refused
returns-in_err-make_shared-clause-refused c =
    let i = c.loop-i.i in
    let slots = c.args.slots.now in
    let was : IsTrue (is_owned_at slots i) = elim (cases_Bool (is_owned_at slots i)) [
      | inl owned ↦ owned
      | inr none ↦ let no : false ≡ true = sym (c.loop-i.invariant.none i none) ∙ c.in_err-make_shared.ensures.refused in cc
    ] in
    rw (err_from_is_err_and c.from_residual.result c.from_residual.ensures.1).1 (256 * i, subst (λ (j : ℕ). IsTrue (is_owned_at slots j)) (let e : i ≡ 256 * i / 256 = omega arith in e) was)
