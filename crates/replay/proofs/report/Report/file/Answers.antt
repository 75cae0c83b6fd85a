use Rattle.std.proofs.Common.{ap, ◌∙◌}
use Rattle.hostfiles.specs.Files.{files}
use Rattle.hostfiles.specs.Hosts.{Host}
use Rattle.replay.proofs.report.Report.file.Goals as goal

pub returns-clause-files : goal.returns-clause-files
returns-clause-files c =
    rw (c.find.ensures.host, c.find.ensures.journal) (ap (λ (h : Host). files h c.journal.result.now.entries) c.files.ensures ∙ c.journal.ensures)
