use Rattle.std.proofs.Common.{sym, ◌∙◌, ◌<◌, ◌≤◌, rules}
use Rattle.hostfiles.specs.Files.{entry_at, record_or_hole, length_at}
use Rattle.hostfiles.proofs.CountLemmas.{record_shape, past_shape, some_copied}
use Rattle.hostfiles.proofs.file_view.FileView.is_written.Goals as goal

pub returns-then-number-length : goal.returns-then-number-length
returns-then-number-length c =
    let past : length_at c.args.self.now.host.now c.args.self.now.journal.now.entries c.args.self.now.key ≤ c.args.number = search rules in
    sym (past_shape (record_or_hole c.args.self.now.host.now c.args.self.now.key (entry_at c.args.self.now.journal.now.entries c.args.self.now.key)) (length_at c.args.self.now.host.now c.args.self.now.journal.now.entries c.args.self.now.key) c.args.number past)

pub returns : goal.returns
returns c =
    let below : c.args.number < length_at c.args.self.now.host.now c.args.self.now.journal.now.entries c.args.self.now.key = search rules in
    c.is_some.ensures
    ∙ some_copied c.record.result _ c.record.ensures
    ∙ sym (record_shape (record_or_hole c.args.self.now.host.now c.args.self.now.key (entry_at c.args.self.now.journal.now.entries c.args.self.now.key)) (length_at c.args.self.now.host.now c.args.self.now.journal.now.entries c.args.self.now.key) c.args.number below)
