use Rattle.std.proofs.Common.{Some, None, option_copied}
use Rattle.replay.proofs.ReportLemmas.{least_left_changed}
use Rattle.replay.proofs.report.Report.next_changed.Goals as goal

pub returns-in-Some : goal.returns-in-Some
returns-in-Some c = least_left_changed c.files.result.now c.journal.result.now.entries _ _ c.files.ensures c.journal.ensures (option_copied c.args.after) (Some c.in-Some.changed.name) c.in-Some.ensures.least

pub returns-in-None : goal.returns-in-None
returns-in-None c = least_left_changed c.files.result.now c.journal.result.now.entries _ _ c.files.ensures c.journal.ensures (option_copied c.args.after) None c.in-None.ensures.least
