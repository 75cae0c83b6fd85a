use Rattle.std.proofs.Common.{refl}
use Rattle.replay.specs.Report.{run_of}
use Rattle.edit_lines.specs.declared.line.Command.TheVariants.{Run}
use Rattle.edit_lines.proofs.Executing.{replied, run_effect}
use Rattle.edit_lines.proofs.execute.run.Goals as goal

pub returns-clause-does : goal.returns-clause-does
returns-clause-does g c =
    let h = c.rerun.follows.holds-at-none in
    let report = c.in_ok-report.ensures in
    replied Run _ _ _ c.write_report.result (run_effect _ _ _ _ (run_of c.in_ok-report.report) report.run h.0 h.1 report.ticked (rw c.in_ok-report.was at h.3)) refl
    (rw report.session at c.write_report.ensures)
