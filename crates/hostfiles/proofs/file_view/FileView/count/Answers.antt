use Rattle.std.proofs.Common.{sym, ◌∙◌, ◌≤◌, ◌+◌, ◌-◌, ◌*◌, ◌≡◌, true, false, get_or, arith}
use Rattle.hostfiles.specs.Files.{entry_at, file_of, record_or_hole, length_at}
use Rattle.hostfiles.specs.File.{shape_of}
use Rattle.hostfiles.proofs.CountLemmas.{none_past, none_from, count_found, count_empty}
use Rattle.hostfiles.proofs.file_view.FileView.count.Goals as goal

pub loop-i-init : goal.loop-i-init
loop-i-init c = (
  c.places_in-i.ensures.within,
  none_past (record_or_hole c.args.self.now.host.now c.args.self.now.key (entry_at c.args.self.now.journal.now.entries c.args.self.now.key)) (length_at c.args.self.now.host.now c.args.self.now.journal.now.entries c.args.self.now.key) c.args.extent _
      (λ k l u. let past = c.places_in-i.ensures.past k l u in let count = c.length.ensures in omega arith),
)

pub returns-then-is_written-clause-value : goal.returns-then-is_written-clause-value
returns-then-is_written-clause-value c =
    let here : get_or (shape_of (file_of c.args.self.now.host.now c.args.self.now.key (entry_at c.args.self.now.journal.now.entries c.args.self.now.key))) (128 * c.args.extent + (c.loop-i.i - 1)) false ≡ true = sym c.is_written.ensures ∙ c.if-is_written.true in
    sym (count_found (shape_of (file_of c.args.self.now.host.now c.args.self.now.key (entry_at c.args.self.now.journal.now.entries c.args.self.now.key))) c.args.extent (c.loop-i.i - 1)
    (let within = c.loop-i.invariant.0 in omega arith) here (λ k l. let beyond : c.loop-i.i ≤ k = omega arith in c.loop-i.invariant.1 k beyond))

pub loop-i-preserved : goal.loop-i-preserved
loop-i-preserved c =
    let here : get_or (shape_of (file_of c.args.self.now.host.now c.args.self.now.key (entry_at c.args.self.now.journal.now.entries c.args.self.now.key))) (128 * c.args.extent + (c.loop-i.i - 1)) false ≡ false = sym c.is_written.ensures ∙ c.if-is_written.false in (
      let within = c.loop-i.invariant.0 in omega arith,
      none_from (shape_of (file_of c.args.self.now.host.now c.args.self.now.key (entry_at c.args.self.now.journal.now.entries c.args.self.now.key))) c.args.extent (c.loop-i.i - 1)
          (let within = c.loop-i.invariant.0 in omega arith) here (λ k l. let beyond : c.loop-i.i ≤ k = omega arith in c.loop-i.invariant.1 k beyond),
    )

pub returns-clause-value : goal.returns-clause-value
returns-clause-value c = sym (count_empty (shape_of (file_of c.args.self.now.host.now c.args.self.now.key (entry_at c.args.self.now.journal.now.entries c.args.self.now.key))) c.args.extent (λ k l. let beyond : c.loop-i.i ≤ k = omega arith in c.loop-i.invariant.1 k beyond))
