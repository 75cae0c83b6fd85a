use Rattle.std.proofs.Common.{◌+◌, ◌<◌, ℕ, length, slice_index, subst, arith}
use Rattle.pagemem.specs.ImageView.{cells_of}
use Rattle.pagemem.specs.Known.{IsKnownCell}
use Rattle.pagemem.specs.Overlay.{own_of, looks_of}
use Rattle.pagemem.proofs.KnownLemmas.{laid_known}
use Rattle.pagemem.proofs.overlay.Overlay.seen_in_page.Goals as goal

pub returns-clause-known : goal.returns-clause-known
returns-clause-known c = λ h i below.
    let o = c.args.self.now in
    let inside : i < length c.args.cells.now = omega (arith, below, c.copy_over.ensures.length) in
    subst (λ (q : ℕ). IsKnownCell (own_of o) (cells_of c.args.image) (looks_of o) q (slice_index c.copy_over.new.cells i)) (omega (arith, c.ranges.at.fits, c.requires, inside))
    (laid_known (own_of o) (cells_of c.args.image) (looks_of o) (c.args.at + i) _ _ _ (c.marks-marks.ensures.marks i inside) (c.in-Some.ensures.bytes i inside) (c.copy_over.ensures.laid h i inside))
