use Rattle.std.proofs.Common.{arith, sym, ◌∙◌, ◌≡◌, ◌+◌, ◌-◌, ◌≤◌, ◌<◌, ap, ℕ, List, take, drop, length}
use Rattle.std.proofs.lemmas.List.{drop-drop, length-drop}
use Rattle.i8080.specs.Memory.{write_all, with_writes, Memory, Own}
use Rattle.i8080.specs.Registers.{onward}
use Rattle.i8080.specs.End.{cells_from}
use Rattle.pagemem.specs.Overlay.{memory_of}
use Rattle.pagemem.proofs.RunLaws.{write_split}
use Rattle.pagemem.proofs.overlay.Overlay.write_in_pages.Goals as goal

-- Writing a piece of the rest, and then what is left, is writing the rest.
piece : (m now : Memory) (a done count : ℕ) (values : List ℕ) → a < 65536 → count ≤ length (drop done values) → now ≡ with_writes (cells_from a (take count (drop done values))) m
    → with_writes (cells_from (onward a count) (drop (done + count) values)) now ≡ with_writes (cells_from a (drop done values)) m
piece m now a done count values low within is =
    ap (with_writes (cells_from (onward a count) (drop (done + count) values))) is
    ∙ ap (λ (own : Own). record m { own = own }) (ap (λ (rest : List ℕ). write_all (write_all m.own (cells_from a (take count (drop done values)))) (cells_from (onward a count) rest)) (sym (drop-drop count done values))
    ∙ sym (write_split m.own a count (drop done values) low within))

pub loop-done-preserved : goal.loop-done-preserved
loop-done-preserved c =
    let i = c.loop-done.invariant in
    let within = c.count_in_page-count.ensures.within in
    record {
      kept = λ q h. c.write_in_page.ensures.kept q (i.kept q h);
      within = omega (arith, within, i.within);
      address = omega (arith, i.address);
      rest = piece (memory_of c.loop-done.self) (memory_of c.write_in_page.new.self) c.loop-done.address c.loop-done.done c.count_in_page-count.result c.args.values.now (omega (arith, i.address))
          (let long = length-drop c.loop-done.done c.args.values.now in omega (arith, long, within, i.within)) (c.write_in_page.ensures.memory ∙ ap (λ n. with_writes (cells_from c.loop-done.address (take n (drop c.loop-done.done c.args.values.now))) (memory_of c.loop-done.self)) (let e : c.loop-done.done + c.count_in_page-count.result - c.loop-done.done ≡ c.count_in_page-count.result = omega arith in e))
          ∙ i.rest;
    }
