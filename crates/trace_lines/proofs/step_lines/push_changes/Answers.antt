use Rattle.std.proofs.Common.{◌≡◌, ◌∙◌, ◌++◌, ap, append-nil, arith, slice_index, sym}
use Rattle.i8080.specs.Registers.{onward}
use Rattle.machine.specs.Runs.{state_of}
use Rattle.streams.specs.Pushing.{more}
use Rattle.streams.proofs.Pushes.{next_pushed}
use Rattle.trace_lines.specs.Rows.{row}
use Rattle.trace_lines.specs.StepLines.{cell_in, change_text, changes_text}
use Rattle.trace_lines.proofs.step_lines.push_changes.Goals as goal

-- Two cells were written.
pub returns : goal.returns
returns g c = λ w same.
    let at = c.args.cells.at in
    let w' = state_of c.args.run.now in
    let two : c.args.cells.count ≡ 2 = omega (arith, c.requires, c.if-cells-eq0.false, c.if-cells-eq1.false) in
    let first : change_text at (slice_index c.args.old 0) c.byte.result ≡ change_text at (cell_in w at) (cell_in w' at) = λ j. change_text at (slice_index (same j) 0) (c.byte.ensures j) in
    let second : change_text (onward at 1) (slice_index c.args.old 1) c.byte-2.result ≡ change_text (onward at 1) (cell_in w (onward at 1)) (cell_in w' (onward at 1)) =
    λ j. change_text (onward at 1) (slice_index (same j) 1) (c.byte-2.ensures j) in
    next_pushed _ _ _ _ _ (changes_text w w' (row at 2)) c.push_change.ensures c.push_change-2.ensures (λ j. first j ++ (second ∙ sym (append-nil _)) j)
    ∙ ap (λ n. more (g.X.Text.pushed c.args.text.now) (changes_text w w' (row at n))) (sym two)
