use Rattle.std.proofs.Common.{◌≡◌, ◌∙◌, ◌++◌, List, ℕ, ap, append_assoc, codes}
use Rattle.std.specs.Fmt.{decimal}
use Rattle.i8080.specs.Registers.{onward}
use Rattle.machine.specs.Regs.{Regs}
use Rattle.machine.specs.Runs.{state_of}
use Rattle.report_lines.specs.FirstLines.{regs_text}
use Rattle.streams.specs.Pushing.{Pushed, more}
use Rattle.trace_lines.specs.StepLines.{cell_in, code_text}
use Rattle.trace_lines.proofs.step_lines.push_step_start.Goals as goal

six_pushed : (o p q r s t u : Pushed) (a b c d e f : List ℕ) → p ≡ more o a → q ≡ more p b → r ≡ more q c → s ≡ more r d → t ≡ more s e → u ≡ more t f
    → u ≡ more o (a ++ b ++ c ++ d ++ e ++ f)
six_pushed o p q r s t u a b c d e f ea eb ec ed ee ef = rw (ef, ee, ed, ec, eb, ea) (simp append_assoc)

pub returns : goal.returns
returns g c =
    let w = state_of c.args.run.now in
    let same = c.regs-regs.ensures in
    let regs : c.as_bytes-2.result.now ≡ regs_text w.core.regs = c.as_bytes-2.ensures.value ∙ c.deref.ensures.0 ∙ c.regs_words.ensures ∙ ap regs_text same in
    let steps : c.as_bytes.result.now ≡ decimal c.args.run.now.step = c.as_bytes.ensures.value ∙ c.format.ensures.text ∙ ap decimal c.step.ensures.value in
    let code : code_text c.byte.result c.byte-2.result c.byte-3.result ≡ code_text (cell_in w w.core.regs.pc) (cell_in w (onward w.core.regs.pc 1)) (cell_in w (onward (onward w.core.regs.pc 1) 1)) =
    λ j. code_text ((c.byte.ensures ∙ ap (λ (r : Regs). cell_in w r.pc) same) j) ((c.byte-2.ensures ∙ ap (λ (r : Regs). cell_in w (onward r.pc 1)) same) j) ((c.byte-3.ensures ∙ ap (λ (r : Regs). cell_in w (onward (onward r.pc 1) 1)) same) j) in
    six_pushed _ _ _ _ _ _ _ (codes "step ") _ (codes " ") _ (codes " ") _ c.push.ensures.piece (c.push-2.ensures.piece ∙ ap (more (g.X.Text.pushed c.push.new.self)) steps) c.push-3.ensures.piece
    (c.push-4.ensures.piece ∙ ap (more (g.X.Text.pushed c.push-3.new.self)) regs) c.push-5.ensures.piece (c.push_code.ensures ∙ ap (more (g.X.Text.pushed c.push-5.new.self)) code)
