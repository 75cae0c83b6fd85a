use Rattle.hostfiles.proofs.FileLemmas.{get-shapes, nothing_listed}
use Rattle.hostfiles.proofs.directory_view.DirectoryViewDirectoryFiles.next_file.Goals as goal

pub returns-in_err-next-clause-least : goal.returns-in_err-next-clause-least
returns-in_err-next-clause-least c =
    let none = rw c.files.ensures at c.in_err-next.ensures.least in
    rw c.from_residual.ensures (λ x above. nothing_listed c.args.self.now.host.now c.args.self.now.journal.now.entries x (none x above))

pub returns-clause-file : goal.returns-clause-file
returns-clause-file c = rw (c.from_search-file.ensures.host, c.from_search-file.ensures.journal, c.from_search-file.ensures.key, get-shapes)

pub returns-clause-least : goal.returns-clause-least
returns-clause-least c =
    let least = rw c.files.ensures at c.in_ok-next.ensures.least in
    (least.0, λ x above below. nothing_listed c.args.self.now.host.now c.args.self.now.journal.now.entries x (least.1 x above below))
