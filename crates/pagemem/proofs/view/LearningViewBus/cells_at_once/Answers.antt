use Rattle.std.proofs.Common.{ℕ, ap, ◌∙◌, arith}
use Rattle.i8080.specs.Memory.{over}
use Rattle.i8080.specs.Registers.{onward}
use Rattle.pagemem.specs.Overlay.{own_of, looks_of}
use Rattle.pagemem.proofs.KnownLemmas.{look_seen}
use Rattle.pagemem.proofs.view.LearningViewBus.cells_at_once.Goals as goal

pub returns-then-copy_known-clause-value : goal.returns-then-copy_known-clause-value
returns-then-copy_known-clause-value c = λ h i below.
    let v = c.args.self.now in
    (c.copy_known.ensures.known h i (omega (arith, below, c.copy_known.ensures.length))).value ∙ ap (λ (b : ℕ → ℕ). over (own_of v.overlay.now) b (onward c.args.at i)) v.same_image

pub returns-then-copy_known-clause-unlooked : goal.returns-then-copy_known-clause-unlooked
returns-then-copy_known-clause-unlooked c = λ h i below.
    let o = c.args.self.now.overlay.now in look_seen (own_of o) (looks_of o) (onward c.args.at i) (c.copy_known.ensures.known h i (omega (arith, below, c.copy_known.ensures.length))).seen

pub returns-else-copy_known-clause-unlooked : goal.returns-else-copy_known-clause-unlooked
returns-else-copy_known-clause-unlooked c = λ h i below.
    let o = c.args.self.now.overlay.now in look_seen (own_of o) (looks_of o) (onward c.args.at i) (c.seen_cells.ensures.known h i (omega (arith, below, c.seen_cells.ensures.length))).seen
