use Rattle.std.proofs.Common.{◌≡◌, length, rules}
use Rattle.filenames.proofs.NameLemmas.{moved_is_sayable}
use Rattle.filenames.proofs.name.Name.with_drive.Goals as goal

pub invariant_of-result : goal.invariant_of-result
invariant_of-result c =
    let whole : length c.self.inside.key ≡ 12 = search rules in
    moved_is_sayable c.self.inside.key c.number.result whole c.number.ensures.within c.self.invariant
