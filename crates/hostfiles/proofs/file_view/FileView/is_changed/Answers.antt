use Rattle.std.proofs.Common.{◌≢◌, sym, ap, ◌∙◌, length, option_copied}
use Rattle.hostfiles.specs.FileView.{view_own, view_length}
use Rattle.hostfiles.proofs.Differences.{untouched_file, other_length}
use Rattle.hostfiles.proofs.file_view.FileView.is_changed.Goals as goal

pub returns-in_default : goal.returns-in_default
returns-in_default c =
    let view = c.args.self.now in
    sym (untouched_file view.host.now (view_own view) view.key (sym view.own ∙ ap option_copied c.in_default.is))

pub returns-then-length-len : goal.returns-then-length-len
returns-then-length-len c =
    let view = c.args.self.now in
    let other : view_length view ≢ length c.in-Some-own_host_file.file.now = λ same. c.if-length-len.true (c.length.ensures ∙ same ∙ sym c.len.ensures) in
    sym (other_length view.host.now (view_own view) view.key c.in-Some-own_host_file.file.now (sym c.is_there-2.ensures ∙ c.if-not-is_there.false) (sym c.in-Some-own_host_file.ensures) other)
