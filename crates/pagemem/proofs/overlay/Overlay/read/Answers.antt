use Rattle.std.proofs.Common.{ap, is_some, sym, ◌∙◌}
use Rattle.pagemem.specs.Cells.{own_in}
use Rattle.i8080.specs.Memory.{Memory, Looks}
use Rattle.pagemem.specs.Overlay.{own_of, looks_of, memory_of}
use Rattle.pagemem.specs.Beneath.{cells_beneath}
use Rattle.pagemem.specs.Known.{is_known, byte_in}
use Rattle.pagemem.proofs.Laws.{look_written, look_unwritten}
use Rattle.pagemem.proofs.KnownLemmas.{known_by_look}
use Rattle.pagemem.proofs.overlay.Overlay.read.Goals as goal

-- A memory with these looks.
abbrev with_looks : Memory → Looks → Memory
with_looks m looks = record m { looks = looks }

pub returns-in-Some-clause-memory : goal.returns-in-Some-clause-memory
returns-in-Some-clause-memory c = let o = c.args.self.now in ap (with_looks (memory_of o)) (look_written (own_of o) (looks_of o) c.args.a (ap is_some (sym c.written.ensures ∙ c.in-Some.is)))

pub returns-in-None-clause-memory : goal.returns-in-None-clause-memory
returns-in-None-clause-memory c = let o = c.args.self.now in ap (with_looks (memory_of o)) (c.add.ensures ∙ look_unwritten (own_of o) (looks_of o) c.args.a (ap is_some (sym c.written.ensures ∙ c.in-None.is)))

pub invariant_of-self : goal.invariant_of-self
invariant_of-self c =
    let s = c.args.self.now in
    let e = c.add.ensures ∙ look_unwritten (own_of s) (looks_of s) c.args.a (ap is_some (sym c.written.ensures ∙ c.in-None.is)) in
    rw e (record { agrees = known_by_look (own_in s.cells) (cells_beneath s.beneath) s.looks (is_known s.known) (byte_in s.known) c.args.a s.agrees })
