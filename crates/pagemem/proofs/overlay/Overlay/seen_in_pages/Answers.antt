use Rattle.std.proofs.Common.{◌≡◌, ◌+◌, ◌-◌, ◌<◌, ◌≤◌, ◌∙◌, ℕ, List, length, get_or, refl, sym, subst, arith, inl, inr}
use Rattle.std.proofs.lemmas.Bool.{cases_lt}
use Rattle.i8080.specs.Registers.{onward}
use Rattle.pagemem.specs.ImageView.{cells_of}
use Rattle.pagemem.specs.Known.{IsKnownCell}
use Rattle.pagemem.specs.Overlay.{own_of, looks_of}
use Rattle.pagemem.proofs.PartLemmas.{length_put, part_length, put_below, put_inside}
use Rattle.pagemem.proofs.overlay.Overlay.seen_in_pages.Goals as goal
use borrow.Rule.Slice.PartMut.{put_mid}

-- What holds of the cells before and of the cells of one more part holds of all of them.
one_more : (P : ℕ → ℕ → Type 0) (a address done k : ℕ) (cells part : List ℕ) → address ≡ onward a done → done + k ≤ length cells → length part ≡ k
    → ((i : ℕ) → i < done → P (onward a i) (get_or cells i 0)) → ((i : ℕ) → i < length part → P (onward address i) (get_or part i 0))
    → (i : ℕ) → i < done + k → P (onward a i) (get_or (put_mid done k cells part) i 0)
one_more P a address done k cells part e within long before here i h = elim (cases_lt i done) [
  | inl below ↦ subst (λ (v : ℕ). P (onward a i) v) (sym (put_below done k cells part within long i 0 below)) (before i below)
  | inr above ↦ subst (λ (v : ℕ). P (onward a i) v) (sym (put_inside done k cells part within long i 0 above h))
      (subst (λ (q : ℕ). P q (get_or part (i - done) 0)) (let there : onward address (i - done) ≡ onward a i = omega (arith, e, above) in there) (here (i - done) (omega (arith, above, h, long))))
]

pub loop-copied-preserved : goal.loop-copied-preserved
loop-copied-preserved c =
    let i = c.loop-copied.invariant in
    let e = c.if-not-seen_in_page.ensures in
    let o = c.args.self.now in
    let done = c.loop-copied.copied in
    let k : ℕ = done + c.count_in_page-count.result - done in
    let within = c.count_in_page-count.ensures.within in
    let bound : done + k ≤ length c.loop-copied.cells = omega (arith, within, i.within) in
    let long : length c.seen_in_page.new.cells ≡ k = e.length ∙ part_length done k c.loop-copied.cells bound in
    let length_new : length (put_mid done k c.loop-copied.cells c.seen_in_page.new.cells) ≡ length c.loop-copied.cells = length_put done k c.loop-copied.cells c.seen_in_page.new.cells bound long in
    record {
      within = omega (arith, length_new, bound);
      address = omega (arith, i.address);
      known = λ j h. one_more (IsKnownCell (own_of o) (cells_of c.args.image) (looks_of o)) c.args.at c.loop-copied.address done k c.loop-copied.cells c.seen_in_page.new.cells i.address bound long i.known
          (e.known refl) j (omega (arith, h));
    }
