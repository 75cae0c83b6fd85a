use Rattle.std.proofs.Common.{◌≡◌, ℕ, IfSome, subst}
use Rattle.i8080.specs.Memory.{over}
use Rattle.i8080.specs.Registers.{onward, word}
use Rattle.pagemem.specs.Overlay.{own_of}
use Rattle.pagemem.proofs.view.LearningViewBus.known_word.Goals as goal

pub returns-clause-value : goal.returns-clause-value
returns-clause-value c =
    let v = c.args.self.now in
    let own = own_of v.overlay.now in
    subst (λ (b : ℕ → ℕ). IfSome c.known_word.result (λ w. w ≡ word (over own b c.args.a) (over own b (onward c.args.a 1)))) v.same_image c.known_word.ensures.value
