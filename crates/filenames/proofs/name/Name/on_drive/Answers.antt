use Rattle.std.proofs.Common.{rules, ap, ◌∙◌, ◌≡◌, ◌<◌, length, true, arith}
use Rattle.filenames.specs.Names.{is_sayable, is_valid}
use Rattle.filenames.specs.Drives.{drive_number}
use Rattle.filenames.proofs.DriveLemmas.{number_below}
use Rattle.filenames.proofs.NameLemmas.{key_is_sayable}
use Rattle.filenames.proofs.name.Name.on_drive.Goals as goal

pub invariant_of-result : goal.invariant_of-result
invariant_of-result c =
    let some : 0 < length c.split_at_dot.result.0.now = search rules in
    let name : is_valid c.split_at_dot.result.0.now ≡ true = search rules in
    let kind : is_valid c.split_at_dot.result.1.now ≡ true = search rules in
    ap is_sayable c.key_of.ensures
    ∙ key_is_sayable (drive_number c.args.drive) c.split_at_dot.result.0.now c.split_at_dot.result.1.now (number_below c.args.drive) some (omega arith) (omega arith) name kind
