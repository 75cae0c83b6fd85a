use Rattle.std.proofs.Common.{arith}
use Rattle.pagemem.specs.Cells.{own_in}
use Rattle.pagemem.specs.Beneath.{cells_beneath}
use Rattle.pagemem.specs.Known.{is_known, byte_in}
use Rattle.pagemem.proofs.KnownLemmas.{known_by_writes}
use Rattle.pagemem.proofs.overlay.Overlay.write_in_page.Goals as goal

pub invariant_of-self : goal.invariant_of-self
invariant_of-self c =
    let s = c.args.self.now in
    rw c.write_in_page.ensures.own (record {
      agrees = known_by_writes (own_in s.cells) (cells_beneath s.beneath) s.looks (is_known s.known) _ (byte_in s.known) _ s.agrees c.args.at c.args.values.now (omega (arith, c.requires.page)) c.set_cells.ensures.inside c.set_cells.ensures.outside;
    })
