use Rattle.std.proofs.Common.{rules, ◌≡◌, nat_lt, length}
use Rattle.command_tail.proofs.Fields.{filling, field_filled}
use Rattle.command_tail.proofs.word.fill_field.Goals as goal
use Rattle.command_tail.proofs.word.fill_field.Goals.{then-star-part, else-star-part}

pub returns : goal.returns
returns c =
    let rest : c.if-star-part.rest ≡ filling (nat_lt c.find_byte-star.result (length c.args.part.now)) = elim c.if-star-part.branch [ then-star-part w ↦ search rules | else-star-part w ↦ search rules ] in
    field_filled _ _ _ _ c.args.part.now _ _ c.find_byte-star.ensures.place c.find_byte-star.ensures.within c.min-end.ensures rest (c.fill.ensures.after (λ y e. e)) c.copy_from_slice.ensures.after
