use Rattle.pagemem.specs.Cells.{own_in}
use Rattle.pagemem.specs.Beneath.{cells_beneath}
use Rattle.pagemem.specs.Known.{is_known, byte_in}
use Rattle.pagemem.proofs.KnownLemmas.{known_by_write}
use Rattle.pagemem.proofs.overlay.Overlay.write.Goals as goal

pub invariant_of-self : goal.invariant_of-self
invariant_of-self c =
    let s = c.args.self.now in
    rw c.write.ensures.own (record {
      agrees = known_by_write (own_in s.cells) (cells_beneath s.beneath) s.looks (is_known s.known) _ (byte_in s.known) _ s.agrees c.args.a c.args.value c.set.ensures.marks c.set.ensures.bytes;
    })
