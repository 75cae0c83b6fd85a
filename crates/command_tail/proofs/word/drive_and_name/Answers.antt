use Rattle.std.proofs.Common.{[], ◌∷◌, refl, ◌∙◌}
use Rattle.command_tail.specs.Words.{drive_and_name}
use Rattle.command_tail.proofs.Fields.{fields_made, name_named}
use Rattle.command_tail.proofs.word.drive_and_name.Goals as goal

pub returns : goal.returns
unfolding drive_and_name
returns c =
    fields_made c.split_drive-drive.result.0 c.split_at_dot.result.0.now c.split_at_dot-2.result.0.now c.fill_field.new.field c.fill_field-2.new.field
    (c.split_drive-drive.result.0 ∷ c.split_drive-drive.result.0 ∷ c.split_drive-drive.result.0 ∷ []) refl c.fill_field.ensures c.fill_field-2.ensures
    ∙ name_named c.args.word.now _ _ _ _ _ c.split_drive-drive.ensures.drive c.split_drive-drive.ensures.text c.split_at_dot.ensures.name c.split_at_dot.ensures.kind c.split_at_dot-2.ensures.name
