use Rattle.std.proofs.Common.{ap, sym, ◌∙◌, slice_index}
use Rattle.std.specs.List.{before_first}
use Rattle.filenames.specs.Names.{drive_text, display_text, is_blank, name_field, type_field}
use Rattle.filenames.proofs.NameLemmas.{sayable_parts, printed_pieces}
use Rattle.filenames.proofs.name.Name.pieces.Goals as goal

pub field_text-kind-requires : goal.field_text-kind-requires
field_text-kind-requires c = (sayable_parts c.self.inside.key c.self.invariant).kind

pub field_text-requires : goal.field_text-requires
field_text-requires c = (sayable_parts c.self.inside.key c.self.invariant).name

pub returns-clause-drive : goal.returns-clause-drive
returns-clause-drive c = c.drive_text.ensures ∙ ap drive_text c.drive.ensures

pub returns-clause-name : goal.returns-clause-name
returns-clause-name c = c.field_text.ensures ∙ ap (λ k. before_first is_blank (name_field k)) c.self.view_is

pub returns-clause-kind : goal.returns-clause-kind
returns-clause-kind c = c.field_text-kind.ensures ∙ ap (λ k. before_first is_blank (type_field k)) c.self.view_is

pub returns-clause-printed : goal.returns-clause-printed
returns-clause-printed c =
    printed_pieces c.self.inside.key _ _ _ _ (c.drive_text.ensures ∙ ap drive_text (c.drive.ensures ∙ ap (λ k. slice_index k 0) (sym c.self.view_is))) c.field_text.ensures c.field_text-kind.ensures c.dot_before.ensures.printed
    ∙ ap display_text c.self.view_is
