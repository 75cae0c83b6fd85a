use Rattle.std.proofs.Common.{◌+◌, ◌≤◌, ◌<◌, ◌-◌, ◌%◌, ℕ, length, slice_index, subst, sym, arith}
use Rattle.pagemem.specs.Known.{IsKnownCell}
use Rattle.pagemem.specs.Overlay.{own_of, looks_of, beneath_of}
use Rattle.pagemem.proofs.overlay.Overlay.copy_known.Goals as goal

pub returns-then-cells-from-clause-known : goal.returns-then-cells-from-clause-known
returns-then-cells-from-clause-known c = λ h i below.
    let o = c.args.self.now in
    let e = c.copy_to.ensures in
    let inside : i < length c.args.cells.now = omega (arith, below, e.length) in
    let fits : length c.args.cells.now ≤ 256 - c.args.at % 256 = omega (arith, c.if-cells-from.true, c.from.ensures) in
    subst (λ (q : ℕ). IsKnownCell (own_of o) (beneath_of o) (looks_of o) q (slice_index c.copy_to.new.cells i)) (omega (arith, c.ranges.at.fits, fits, below, e.length))
    (subst (λ (b : ℕ). IsKnownCell (own_of o) (beneath_of o) (looks_of o) (c.args.at + i) b) (sym (e.bytes h i inside)) (o.agrees (c.args.at + i) (e.known h i inside)))
