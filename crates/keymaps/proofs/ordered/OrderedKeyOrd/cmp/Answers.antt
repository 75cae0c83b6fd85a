use Rattle.std.proofs.Common.{sym, ◌∙◌}
use Rattle.keymaps.proofs.SpelledLemmas.{number_cmp}
use Rattle.keymaps.proofs.ordered.OrderedKeyOrd.cmp.Goals as goal

pub returns : goal.returns
returns c =
    let a = c.as_number.ensures in
    let b = c.as_number-2.ensures in
    rw (c.cmp.ensures, a.number, b.number, sym c.self.view_is, sym c.other.view_is)
    (number_cmp c.self.inside.bytes c.other.inside.bytes (c.self.told ∙ sym c.other.told) a.bytes b.bytes)
