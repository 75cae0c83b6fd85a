use Rattle.std.proofs.Common.{sym, ◌∙◌}
use Rattle.keymaps.proofs.SpelledLemmas.{number_eq}
use Rattle.keymaps.proofs.ordered.OrderedKeyPartialEq.eq.Goals as goal

pub returns : goal.returns
returns c =
    let a = c.as_number.ensures in
    let b = c.as_number-2.ensures in
    rw (a.number, b.number, sym c.self.view_is, sym c.other.view_is)
    (number_eq c.self.inside.bytes c.other.inside.bytes (c.self.told ∙ sym c.other.told) a.bytes b.bytes)
