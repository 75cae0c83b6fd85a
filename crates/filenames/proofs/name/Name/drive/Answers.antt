use Rattle.std.proofs.Common.{ap, sym, ◌∙◌, slice_index}
use Rattle.filenames.proofs.DriveLemmas.{number_at, is_there}
use Rattle.filenames.proofs.NameLemmas.{sayable_parts, drive_below}
use Rattle.filenames.proofs.name.Name.drive.Goals as goal

pub unwrap-requires : goal.unwrap-requires
unwrap-requires c = is_there _ _ (drive_below _ (sayable_parts c.self.inside.key c.self.invariant).drive) c.from_number.ensures

pub returns : goal.returns
returns c = number_at _ c.unwrap.result (sym c.unwrap.ensures ∙ c.from_number.ensures) ∙ ap (λ k. slice_index k 0) c.self.view_is
