-- The reply to `run`. (This project's own.)
use Rattle.std.specs.Prelude.{ℕ, List, ◌++◌, codes}
use Rattle.machine.specs.Inputs.{Session}
use Rattle.machine.specs.PlainState.{PlainRun}
use Rattle.report_lines.specs.FirstLines.{line, report_head, text_line}
use Rattle.report_lines.specs.ChangedLines.{changed_lines}

-- The report on the run of a session: why it stopped, the number of steps, the registers and the console text, then a line for
-- each changed file in the order of the names, and `end`.
unfoldable pub report_text : Session → PlainRun → List ℕ
report_text s run =
    ((report_head run.cause run.steps run.state.core.regs ++ text_line run.state.core.desk.text) ++ changed_lines s.files run.state.files) ++ line (codes "end")
