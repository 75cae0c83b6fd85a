use Rattle.std.proofs.Common.{◌≡◌, sym, ap, ◌∙◌, not, bytes_eq, get_or, unwrap_or, slice_get}
use Rattle.std.specs.Cmp.Lexicographic.{nat_list_eq_equiv}
use Rattle.std.proofs.lemmas.Option.{get_or_from_slice_get, slice_get-get_or}
use Rattle.records.specs.Records.{zeros}
use Rattle.hostfiles.specs.FileView.{view_entry, view_record}
use Rattle.hostfiles.proofs.Differences.{unwritten_same, not_there}
use Rattle.hostfiles.proofs.file_view.FileView.is_other_record.Goals as goal

pub returns-then-is_own_record : goal.returns-then-is_own_record
returns-then-is_own_record c =
    let view = c.args.self.now in
    unwritten_same view.host.now view.key (view_entry view) c.args.file.now c.args.number
    (c.is_own_record.ensures.base c.if-is_own_record.true) (c.is_own_record.ensures.grown c.if-is_own_record.true) (c.is_own_record.ensures.records c.if-is_own_record.true)
    c.requires.file c.requires.within

pub returns-in-Some : goal.returns-in-Some
returns-in-Some c =
    let content = unwrap_or (view_record c.args.self.now c.args.number) zeros in
    let same : get_or c.args.file.now c.args.number zeros ≡ c.in-Some.record.now = get_or_from_slice_get c.args.file.now c.args.number c.in-Some.record.now zeros (sym c.in-Some.ensures) in
    c.ne.ensures ∙ ap (λ r. not (bytes_eq c.in-Some.record.now r)) c.content.ensures
    ∙ ap not (nat_list_eq_equiv.symm c.in-Some.record.now content) ∙ ap (λ r. not (bytes_eq content r)) (sym same)

pub returns-in-None : goal.returns-in-None
returns-in-None c = absurd (not_there (slice_get c.args.file.now c.args.number) (sym c.in-None.ensures) (slice_get-get_or c.args.file.now c.args.number zeros c.requires.within))
