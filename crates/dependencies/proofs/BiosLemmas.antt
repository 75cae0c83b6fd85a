-- The first of some numbers of which something holds.
use Rattle.std.proofs.Common.{◌≡◌, ◌+◌, ℕ, suc, true, false, Bool, Some, None, refl, ap, cond, sym, ◌∙◌}
use Rattle.dependencies.specs.Bios.{first_from}

first_of : (is : ℕ → Bool) (at left : ℕ) → first_from is at (suc left) ≡ cond (is at) (Some at) (first_from is (at + 1) left)
unfolding first_from
first_of is at left = refl

-- It is the first number, or one of the others, or there is none.
pub found_here : (is : ℕ → Bool) (at n left : ℕ) → n ≡ suc left → is at ≡ true → first_from is at n ≡ Some at
found_here is at n left e h = ap (first_from is at) e ∙ first_of is at left ∙ ap (λ b. cond b (Some at) (first_from is (at + 1) left)) h

pub found_later : (is : ℕ → Bool) (at next n left : ℕ) → next ≡ at + 1 → n ≡ suc left → is at ≡ false → first_from is next left ≡ first_from is at n
found_later is at next n left a e h =
    ap (λ x. first_from is x left) a ∙ sym (ap (first_from is at) e ∙ first_of is at left ∙ ap (λ b. cond b (Some at) (first_from is (at + 1) left)) h)

pub found_none : (is : ℕ → Bool) (at n : ℕ) → n ≡ 0 → None ≡ first_from is at n
unfolding first_from
found_none is at n e = rw e refl
