use Rattle.std.proofs.Common.{◌+◌, subst, Ok, Err}
use Rattle.std.proofs.lemmas.Result.{err_from_is_err_and}
use Rattle.edit_lines.specs.Progress.{ExecutesLine, replay_state}
use Rattle.edit_lines.proofs.stream.end_line.Goals as goal

pub returns-in_err-execute_line-clause-does : goal.returns-in_err-execute_line-clause-does
returns-in_err-execute_line-clause-does g c =
    let before = replay_state c.args.runner.now c.args.meter.now (g.W.Writer.output c.args.writer.now) in
    let after = replay_state c.execute_line.new.runner c.execute_line.new.meter (g.W.Writer.output c.execute_line.new.writer) in
    let e = err_from_is_err_and c.from_residual.result c.from_residual.ensures.1 in
    rw (e.1, e.2) (subst (λ x. ExecutesLine {U = Unit {0}} (c.args.buffer.now.lines + 1) x before after (Err c.in_err-execute_line.field-0.0))
    c.as_slice-line.ensures.value c.in_err-execute_line.ensures.does)

pub returns-clause-does : goal.returns-clause-does
returns-clause-does g c =
    let before = replay_state c.args.runner.now c.args.meter.now (g.W.Writer.output c.args.writer.now) in
    let after = replay_state c.execute_line.new.runner c.execute_line.new.meter (g.W.Writer.output c.execute_line.new.writer) in
    subst (λ x. ExecutesLine {U = Unit {0}} (c.args.buffer.now.lines + 1) x before after (Ok tt)) c.as_slice-line.ensures.value c.in_ok-execute_line.ensures.does
