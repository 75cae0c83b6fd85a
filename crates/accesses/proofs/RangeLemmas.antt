-- A range is passed if a cell of it is among the cells.
use Rattle.std.proofs.Common.{◌≡◌, ℕ, Bool, true, false, List, [], ◌∷◌, refl, sym, ◌∙◌, arith}
use Rattle.std.proofs.lemmas.Bool.Decides.{nat_tests}
use Rattle.std.proofs.lemmas.Grind.{common_steps}
use Rattle.std.specs.List.{list_any}
use Rattle.i8080.specs.Memory.{is_among}
use Rattle.accesses.specs.declared.ranges.CellRange.{CellRange}
use Rattle.accesses.specs.Ranges.{Finds, is_in_range}

any_true : (p : ℕ → Bool) (cells : List ℕ) (a : ℕ) → p a ≡ true → is_among a cells ≡ true → list_any p cells ≡ true
any_true p [] a h among = absurd (cc)
any_true p (x ∷ cells) a h among = grind (arith, nat_tests, common_steps, any_true p cells a h)

any_false : (p : ℕ → Bool) (cells : List ℕ) → ((a : ℕ) → p a ≡ true → is_among a cells ≡ false) → list_any p cells ≡ false
any_false p [] h = refl
any_false p (x ∷ cells) h = grind (arith, nat_tests, common_steps, any_false p cells, h, h x)

pub passes : {has : ℕ → Bool} {r : CellRange} {b : Bool} → Finds has r b → (cells : List ℕ) → ((a : ℕ) → has a ≡ is_among a cells) → b ≡ list_any (is_in_range r) cells
passes {b = true} f cells same = let (a, in_range, h) = f.some refl in sym (any_true _ cells a in_range (sym (same a) ∙ h))
passes {b = false} f cells same = sym (any_false _ cells (λ a in_range. sym (same a) ∙ f.none refl a in_range))
