use Rattle.pagemem.specs.Cells.{own_in}
use Rattle.pagemem.specs.Beneath.{cells_beneath}
use Rattle.pagemem.specs.Known.{is_known, byte_in}
use Rattle.pagemem.proofs.KnownLemmas.{known_by_take}
use Rattle.pagemem.proofs.overlay.Overlay.take_look.Goals as goal

pub invariant_of-self-2 : goal.invariant_of-self-2
invariant_of-self-2 c =
    let s = c.args.self.now in
    record {
      agrees = known_by_take (own_in s.cells) (cells_beneath s.beneath) s.looks (is_known s.known) _ (byte_in s.known) _ s.agrees _ _ c.remove.ensures.marks c.remove.ensures.bytes c.in_ok-last.ensures.some;
    }
