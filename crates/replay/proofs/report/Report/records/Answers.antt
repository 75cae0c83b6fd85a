use Rattle.hostfiles.specs.FileView.{view_own}
use Rattle.replay.specs.Report.{run_of}
use Rattle.replay.proofs.ReportLemmas.{told_is}
use Rattle.replay.proofs.report.Report.records.Goals as goal

pub returns : goal.returns
returns c =
    let file = c.file.result in
    let is = told_is file.host.now (view_own file) (run_of c.args.self.now).state.files c.file.ensures.files file.key in
    let key = c.file.ensures.key in
    cc
