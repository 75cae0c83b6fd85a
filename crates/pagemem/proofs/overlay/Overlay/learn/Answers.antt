use Rattle.std.proofs.Common.{sym, ap, ◌≡◌, ◌∙◌}
use Rattle.i8080.specs.Memory.{Memory, Own, over}
use Rattle.pagemem.specs.Cells.{own_in}
use Rattle.pagemem.specs.Overlay.{own_of, looks_of, beneath_of}
use Rattle.pagemem.specs.Beneath.{cells_beneath}
use Rattle.pagemem.specs.Known.{is_known, byte_in}
use Rattle.pagemem.proofs.KnownLemmas.{known_by_set, seen_after}
use Rattle.pagemem.proofs.overlay.Overlay.learn.Goals as goal

pub invariant_of-self : goal.invariant_of-self
invariant_of-self c =
    let o = c.args.self.now in
    let s = c.read-byte.new.self in
    let e = c.read-byte.ensures in
    let own : own_of s ≡ own_of o = ap (λ (m : Memory). m.own) e.memory in
    let looks = ap (λ (m : Memory). m.looks) e.memory in
    let beneath : beneath_of s ≡ beneath_of o = ap (λ (m : Memory). m.beneath) e.memory in
    let value = e.value ∙ ap (λ (b : _). over (own_of o) b c.args.a) (sym c.requires ∙ sym beneath) ∙ ap (λ (w : Own). over w (beneath_of s) c.args.a) (sym own) in
    record {
      agrees = known_by_set (own_in s.cells) (cells_beneath s.beneath) s.looks (is_known s.known) _ (byte_in s.known) _ s.agrees c.args.a c.read-byte.result value
          (seen_after (own_of o) (own_of s) (looks_of o) (looks_of s) c.args.a own looks) c.set.ensures.marks c.set.ensures.bytes;
    }
