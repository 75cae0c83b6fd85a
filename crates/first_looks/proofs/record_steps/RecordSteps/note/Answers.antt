use Rattle.std.proofs.Common.{◌≡◌, ◌≤◌, ◌∙◌, ℕ, [], ap, sym, is_some, Some, Ok, cond, arith}
use Rattle.std.specs.Prelude.{◌==◌}
use Rattle.std.specs.Ordering.{nat_cmp}
use Rattle.std.specs.Cmp.Lexicographic.{slice_cmp}
use Rattle.std.specs.BTreeMap.{is_at}
use Rattle.hostfiles.specs.Hosts.{Key}
use Rattle.std.proofs.lemmas.Result.{on_ok_weaker, on_err_weaker}
use Rattle.std.specs.Option.{option_copied_mut}
use Rattle.first_looks.specs.Noting.{or_else, step_if}
use Rattle.first_looks.specs.FirstSteps.{Steps, step_in}
use Rattle.first_looks.specs.RecordSteps.{steps_of}
use Rattle.first_looks.proofs.RecordLemmas.{noted_in, same_in, within_in, within_more, noted_within}
use Rattle.first_looks.proofs.record_steps.RecordSteps.note.Goals as goal
use Rattle.first_looks.proofs.record_steps.RecordSteps.note.Goals.{Joined-branch-3}

pub invariant_of-self : goal.invariant_of-self
invariant_of-self c =
    let there = sym (ap is_some c.in-Some.ensures.value) in
    let h = (c.get_mut.follows.holds c.note.new.self).3 there in
    let old = rw (← c.self.view_is) at c.requires.latest in
    let steps = c.in-Some.steps.now in
    let before : (k x : ℕ) → step_in steps.entries k ≡ Some x → x ≤ c.args.step =
    λ k x at. let low = (c.self.invariant c.args.key.now steps (sym c.in-Some.ensures.value)).1 k x at in omega arith in
    within_in c.self.inside.files.entries _ c.args.key.now c.note.new.self h.0 c.args.step
    (noted_within c.note.result steps c.note.new.self c.args.step c.args.number c.args.step before (omega arith) c.note.ensures.latest c.note.ensures.ok c.note.ensures.err)
    (within_more c.self.inside.latest c.args.step c.self.inside.files.entries old c.self.invariant)

pub returns-in-Some-clause-ok : goal.returns-in-Some-clause-ok
returns-in-Some-clause-ok c =
    let there = sym (ap is_some c.in-Some.ensures.value) in
    let h = (c.get_mut.follows.holds c.note.new.self).3 there in
    rw (← c.self.view_is) (on_ok_weaker c.note.result
    (λ (e : _). noted_in c.self.inside.files.entries _ c.args.key.now c.note.new.self h.0 c.args.number c.args.step
    (rw (← c.in-Some.ensures.value) e)) c.note.ensures.ok)

pub returns-in-Some-clause-err : goal.returns-in-Some-clause-err
returns-in-Some-clause-err c =
    let there = sym (ap is_some c.in-Some.ensures.value) in
    let h = (c.get_mut.follows.holds c.note.new.self).3 there in
    rw (← c.self.view_is) (on_err_weaker c.note.result
    (λ (e : _). same_in c.self.inside.files.entries _ c.args.key.now c.note.new.self h.0
    (rw (← c.in-Some.ensures.value) e)) c.note.ensures.err)

pub note-requires-clause-latest : goal.note-requires-clause-latest
note-requires-clause-latest c =
    let old = rw (← c.self.view_is) at c.requires.latest in
    let low = (c.self.invariant c.args.key.now c.in-Some.steps.now (sym c.in-Some.ensures.value)).0 in
    omega arith

-- The file of the key is inserted, and the other files are unchanged.
put : (c : Joined-branch-3) (q : Key)
    → steps_of c.insert.new.self.entries q ≡ cond (is_at (slice_cmp nat_cmp c.args.key.now) q) (Some c.note-2.new.self) (steps_of c.self.inside.files.entries q)
put c q =
    c.in_ok-insert.ensures.updates.0 q
    ∙ ap (λ (m : _). cond (is_at (slice_cmp nat_cmp c.args.key.now) q) (Some c.note-2.new.self) (steps_of m.entries q)) c.get_mut.follows.holds-at-none

pub invariant_of-self-2 : goal.invariant_of-self-2
invariant_of-self-2 c =
    let old = rw (← c.self.view_is) at c.requires.latest in
    let fresh : (k : ℕ) → step_in c.note-2.new.self.entries k ≡ or_else (step_in [] k) (step_if (k == c.args.number) c.args.step) =
    λ k. c.in_ok-note.ensures.ok k ∙ ap (λ (s : Steps). or_else (step_in s.entries k) (step_if (k == c.args.number) c.args.step)) c.new-steps.ensures in
    within_in c.self.inside.files.entries _ c.args.key.now c.note-2.new.self (put c) c.args.step
    (noted_within {E = ⊥} (Ok tt) (record { entries = []; latest = 0 }) c.note-2.new.self c.args.step c.args.number c.args.step (λ k x at. cc) (omega arith) c.note-2.ensures.latest fresh tt)
    (within_more c.self.inside.latest c.args.step c.self.inside.files.entries old c.self.invariant)

pub returns-clause-ok : goal.returns-clause-ok
returns-clause-ok c =
    let gone = sym (ap option_copied_mut c.in_default.is) ∙ c.get_mut.ensures.value in
    rw (← c.self.view_is) (noted_in c.self.inside.files.entries _ c.args.key.now c.note-2.new.self (put c) c.args.number c.args.step
    (rw (← gone) (λ k. c.in_ok-note.ensures.ok k ∙ ap (λ (s : Steps). or_else (step_in s.entries k) (step_if (k == c.args.number) c.args.step)) c.new-steps.ensures)))
