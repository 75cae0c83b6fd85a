use Rattle.std.proofs.Common.{ℕ, ap, ◌∙◌}
use Rattle.i8080.specs.Memory.{over}
use Rattle.pagemem.specs.Overlay.{own_of}
use Rattle.pagemem.proofs.view.LearningViewBus.read.Goals as goal

pub returns-in-Some-clause-value : goal.returns-in-Some-clause-value
returns-in-Some-clause-value c =
    let v = c.args.self.now in
    c.in-Some.ensures.value ∙ ap (λ (b : ℕ → ℕ). over (own_of v.overlay.now) b c.args.a) v.same_image
