use Rattle.std.proofs.Common.{◌≡◌, ◌∙◌, ap, sym, None, length, arith}
use Rattle.std.proofs.lemmas.Result.{on_ok_weaker, on_err_weaker}
use Rattle.first_looks.specs.FirstSteps.{step_in}
use Rattle.first_looks.proofs.TurnLemmas.{none_if, kept_in_turn, pushed_at, in_turn_pushed, noted_at, same_at}
use Rattle.first_looks.proofs.sequential_steps.SequentialSteps.note.Goals as goal

pub returns-then-index-next-clause-ok : goal.returns-then-index-next-clause-ok
returns-then-index-next-clause-ok c =
    rw (← c.self.view_is) (kept_in_turn c.self.inside.in_turn.items c.self.inside.others.entries c.args.step c.args.index (omega (arith, c.self.inside.in_turn.ok.0)))

-- The index is the next one in order, and not among the others.
next_place : (c : goal.In_ok-push) → c.args.index ≡ length c.self.inside.in_turn.items
next_place c = omega (arith, c.len-next.ensures, c.if-index-next-2.true, c.self.inside.in_turn.ok.0)

no_other : (c : goal.In_ok-push) → step_in c.self.inside.others.entries (length c.self.inside.in_turn.items) ≡ None
no_other c = ap (step_in c.self.inside.others.entries) (sym (next_place c)) ∙ sym c.get.ensures ∙ none_if c.get.result c.if-is_none.ensures

pub invariant_of-self-then-is_none : goal.invariant_of-self-then-is_none
invariant_of-self-then-is_none c =
    let steps = c.self.inside.in_turn.items in
    let latest = rw (← c.self.view_is) at c.requires.latest in
    rw c.in_ok-push.ensures.items (in_turn_pushed steps c.self.inside.others.entries c.args.step (no_other c) c.self.invariant (omega (arith, latest)))

pub returns-then-is_none-clause-ok : goal.returns-then-is_none-clause-ok
returns-then-is_none-clause-ok c =
    rw (← c.self.view_is, c.in_ok-push.ensures.items, next_place c) (pushed_at c.self.inside.in_turn.items c.self.inside.others.entries c.args.step (no_other c))

pub returns-clause-ok : goal.returns-clause-ok
returns-clause-ok c =
    rw (← c.self.view_is) (on_ok_weaker c.note.result
    (noted_at c.self.inside.in_turn.items c.self.inside.others.entries c.args.step c.note.new.self.entries c.args.index (omega (arith, c.self.inside.in_turn.ok.0))) c.note.ensures.ok)

pub returns-clause-err : goal.returns-clause-err
returns-clause-err c =
    rw (← c.self.view_is) (on_err_weaker c.note.result (same_at c.self.inside.in_turn.items c.self.inside.others.entries c.note.new.self.entries) c.note.ensures.err)
