use Rattle.std.proofs.Common.{◌≡◌, ◌-◌, ◌≤◌, ◌++◌, [], ◌∷◌, List, length, take, ap, sym, ◌∙◌, arith, inl, inr, vec_len}
use Rattle.first_looks.specs.declared.first_steps.Look.{Look}
use Rattle.first_looks.specs.FirstSteps.{latest_of}
use Rattle.first_looks.proofs.OrderLemmas.{taken_last}
use Rattle.first_looks.proofs.OrderLemmas.{latest_less, last_latest, in_order_less, still_erased, none_as_late, no_items}
use Rattle.first_looks.proofs.first_steps.erase_from.Goals as goal

pub returns-then-from-clause-entries : goal.returns-then-from-clause-entries
returns-then-from-clause-entries c = λ k.
    let i = c.loop-last.invariant in
    let latest : latest_of c.loop-last.looks.items ≤ c.in-Some.last.now.step = last_latest _ c.in-Some.last.now i.order.rise (sym (rw c.deref.ensures.value at c.in-Some.ensures.value)) in
    none_as_late _ _ c.args.from i.order (inr (omega (arith, latest, c.from.ensures, c.if-from.true))) k ∙ i.left k

pub returns-then-from-clause-latest : goal.returns-then-from-clause-latest
returns-then-from-clause-latest c =
    let i = c.loop-last.invariant in
    let latest : latest_of c.loop-last.looks.items ≤ c.in-Some.last.now.step = last_latest _ c.in-Some.last.now i.order.rise (sym (rw c.deref.ensures.value at c.in-Some.ensures.value)) in
    (i.latest, omega (arith, latest, c.from.ensures, c.if-from.true))

pub loop-last-preserved : goal.loop-last-preserved
loop-last-preserved c =
    let i = c.loop-last.invariant in
    let last = c.in-Some.last.now in
    let count : vec_len c.loop-last.looks ≡ length c.loop-last.looks.items = omega (arith, c.loop-last.looks.ok.0) in
    let rest : c.pop.new.self.items ≡ take (length c.loop-last.looks.items - 1) c.loop-last.looks.items = rw count at c.pop.ensures.rest in
    let split : c.loop-last.looks.items ≡ c.pop.new.self.items ++ last ∷ [] = taken_last c.loop-last.looks.items last (sym (rw c.deref.ensures.value at c.in-Some.ensures.value)) ∙ ap (λ (xs : List Look). xs ++ last ∷ []) (sym rest) in
    let latest : latest_of c.pop.new.self.items ≤ latest_of c.loop-last.looks.items = rw (← split) at (latest_less c.pop.new.self.items last) in
    record {
      left = still_erased c.loop-last.steps.items c.args.steps.now.items c.erase_at.new.steps.items last.index c.args.from i.left c.erase_at.ensures;
      order = in_order_less c.loop-last.steps.items c.erase_at.new.steps.items c.pop.new.self.items last c.args.from (rw split at i.order) (omega (arith, c.from.ensures, c.if-from.false)) c.erase_at.ensures;
      latest = omega (arith, latest, i.latest);
    }

pub returns-clause-entries : goal.returns-clause-entries
returns-clause-entries c = λ k.
    let i = c.loop-last.invariant in
    none_as_late _ _ c.args.from i.order (inl (no_items c.loop-last.looks.items (rw c.deref.ensures.value at c.in_default.ensures.item.3))) k ∙ i.left k
