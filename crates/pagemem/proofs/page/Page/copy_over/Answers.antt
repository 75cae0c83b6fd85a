use Rattle.std.proofs.Common.{◌≡◌, ◌+◌, ◌<◌, ◌||◌, ◌&&◌, ℕ, Bool, true, false, cond, List, Some, None, is_some, unwrap_or, length, get_or, slice_set, get_or-set_same, get_or-set_other, refl, ap, sym, ◌∙◌, inl, inr, arith}
use Rattle.std.proofs.lemmas.Bool.Decides.{eqb_tells}
use Rattle.pagemem.specs.Pages.{page_own, IsLaid}
use Rattle.pagemem.specs.declared.page.Page.{Page}
use Rattle.pagemem.proofs.page.Page.copy_over.Goals as goal

-- The parts of a test that passed.
first_passed : (a b : Bool) → (a && b) ≡ true → a ≡ true
first_passed true b h = refl
first_passed false b h = h

last_passed : (a b : Bool) → (a && b) ≡ true → b ≡ true
last_passed true b h = h
last_passed false b h = cc

is_written : (b : Bool) (byte : ℕ) → is_some (cond b (Some byte) None) ≡ b
is_written true byte = refl
is_written false byte = refl

read : (b : Bool) (byte other : ℕ) → unwrap_or (cond b (Some byte) None) other ≡ cond b byte other
read true byte other = refl
read false byte other = refl

-- One cell is laid over.
laid_here : (page : Page) (at other byte : ℕ) (mark : Bool) → byte ≡ cond (get_or page.written at false) (get_or page.bytes at 0) other → (get_or page.written at false || mark) ≡ true → IsLaid (page_own page at) other mark byte
unfolding page_own
laid_here page at other byte mark e h = record {
  value = e ∙ sym (read (get_or page.written at false) (get_or page.bytes at 0) other);
  seen = ap (λ b. b || mark) (is_written (get_or page.written at false) (get_or page.bytes at 0)) ∙ h;
}

-- One more cell is laid over.
laid_more : (page : Page) (from i byte : ℕ) (beneath cells : List ℕ) (marks : List Bool) (was is : Bool) → i < length cells → byte ≡ cond (get_or page.written (from + i) false) (get_or page.bytes (from + i) 0) (get_or beneath i 0)
    → is ≡ (was && (get_or page.written (from + i) false || get_or marks i false))
    → (was ≡ true → (j : ℕ) → j < i → IsLaid (page_own page (from + j)) (get_or beneath j 0) (get_or marks j false) (get_or cells j 0))
    → is ≡ true → (j : ℕ) → j < i + 1 → IsLaid (page_own page (from + j)) (get_or beneath j 0) (get_or marks j false) (get_or (slice_set cells i byte) j 0)
laid_more page from i byte beneath cells marks was is low e known before h j below = elim (eqb_tells j i) [
  | inl same ↦ rw same.1 (rw (get_or-set_same cells i byte 0 low) (laid_here page (from + i) (get_or beneath i 0) byte (get_or marks i false) e (last_passed was _ (sym known ∙ h))))
  | inr other ↦ rw (get_or-set_other cells i j byte 0 other.1) (before (first_passed was _ (sym known ∙ h)) j (let apart : j ≡ i → ⊥ = other.1 in omega (arith, apart, below)))
]

pub loop-i-preserved : goal.loop-i-preserved
loop-i-preserved c =
    let i = c.loop-i.i in
    let page = c.args.self.now in
    laid_more page c.args.from i _ c.args.beneath.now c.loop-i.cells c.args.marks.now c.loop-i.is_known _ (omega (arith, c.loop-i-test.true))
    c.either.ensures
    refl
    c.loop-i.invariant
