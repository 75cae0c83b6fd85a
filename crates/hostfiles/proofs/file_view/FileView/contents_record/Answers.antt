use Rattle.std.proofs.Common.{◌≡◌, ◌<◌, ◌≤◌, true, sym, ◌∙◌, arith}
use Rattle.hostfiles.specs.FileView.{is_view_there, view_length, view_own}
use Rattle.hostfiles.proofs.ContentsLemmas.{content_past, content_within}
use Rattle.hostfiles.proofs.file_view.FileView.contents_record.Goals as goal

pub returns-then-number-length : goal.returns-then-number-length
returns-then-number-length c =
    let view = c.args.self.now in
    let there : is_view_there view ≡ true = sym c.is_there.ensures ∙ c.if-not-is_there.false in
    let past : view_length view ≤ c.args.number = let l = c.length.ensures in let t = c.if-number-length.true in omega arith in
    content_past view.host.now (view_own view) view.key c.args.number there past

pub returns : goal.returns
returns c =
    let view = c.args.self.now in
    let there : is_view_there view ≡ true = sym c.is_there.ensures ∙ c.if-not-is_there.false in
    let below : c.args.number < view_length view = let l = c.length.ensures in let t = c.if-number-length.false in omega arith in
    content_within view.host.now (view_own view) view.key c.args.number c.content.result.now there below (sym c.content.ensures)
