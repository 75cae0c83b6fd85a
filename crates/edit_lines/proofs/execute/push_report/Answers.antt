use Rattle.std.proofs.Common.{◌≡◌, ◌++◌, ◌∙◌, ap, codes, refl}
use Rattle.hostfiles.specs.Files.{files}
use Rattle.hostfiles.specs.Hosts.{Host}
use Rattle.machine.specs.Inputs.{Session}
use Rattle.machine.specs.PlainState.{PlainRun}
use Rattle.replay.specs.Report.{run_of, session_of}
use Rattle.report_lines.specs.ChangedLines.{changed_lines}
use Rattle.report_lines.specs.FirstLines.{line, report_head, text_line}
use Rattle.streams.specs.Pushing.{more}
use Rattle.streams.proofs.Pushes.{next_pushed}
use Rattle.edit_lines.specs.Reports.{report_text}
use Rattle.edit_lines.proofs.execute.push_report.Goals as goal

whole : (s : Session) (run : PlainRun)
    → ((report_head run.cause run.steps run.state.core.regs ++ text_line run.state.core.desk.text) ++ changed_lines s.files run.state.files) ++ line (codes "end") ≡ report_text s run
unfolding report_text
whole s run = refl

pub returns : goal.returns
returns g c =
    let s = session_of c.args.report.now in
    let run = run_of c.args.report.now in
    let first = report_head run.cause run.steps run.state.core.regs in
    let text = text_line run.state.core.desk.text in
    let changed = changed_lines s.files run.state.files in
    let head : c.as_bytes.result.now ≡ first = c.as_bytes.ensures.value ∙ c.deref.ensures.0 ∙ (rw (c.cause.ensures, c.steps.ensures, c.regs.ensures) at c.report_head.ensures) in
    let own = c.journal.result.now.entries in
    let same = ap (λ (h : Host). changed_lines h (files h own)) c.files.ensures ∙ ap (changed_lines s.files) c.journal.ensures in
    let pushed = next_pushed _ _ _ first text _ (c.push.ensures.piece ∙ ap (more (g.X.Text.pushed c.args.text.now)) head) (rw c.text.ensures at c.push_text.ensures) refl in
    let all = next_pushed _ _ _ (first ++ text) changed _ pushed (c.push_changed_files.ensures ∙ ap (more _) same) refl in
    next_pushed _ _ _ ((first ++ text) ++ changed) (line (codes "end")) _ all c.push-2.ensures.piece (whole s run)
