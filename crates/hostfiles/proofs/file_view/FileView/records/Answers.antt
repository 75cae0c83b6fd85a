use Rattle.std.proofs.Common.{◌≡◌, Some, rules, ◌∙◌}
use Rattle.hostfiles.specs.Files.{records}
use Rattle.hostfiles.specs.FileView.{view_own}
use Rattle.hostfiles.proofs.ContentsLemmas.{contents_length}
use Rattle.hostfiles.proofs.file_view.FileView.records.Goals as goal

pub returns-clause-contents : goal.returns-clause-contents
returns-clause-contents c =
    let view = c.args.self.now in
    let is : Some c.length.result ≡ records view.host.now (view_own view) view.key = search rules in
    is ∙ contents_length view.host.now (view_own view) view.key
