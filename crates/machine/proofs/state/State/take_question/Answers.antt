use Rattle.std.proofs.Common.{◌<◌, ◌≤◌, ◌∙◌, ap, refl, arith, length}
use Rattle.std.specs.Prelude.{slice_index}
use Rattle.std.proofs.lemmas.Bool.Decides.{nat_tests}
use Rattle.console_calls.specs.ScriptLooks.{DeskLooks}
use Rattle.machine.specs.StateView.{StateView}
use Rattle.machine.proofs.TakeLemmas.{takes_cell, takes_ask, takes_none}
use Rattle.machine.proofs.state.State.take_question.Goals.{in-Some-take_look, in-None}
use Rattle.machine.proofs.state.State.take_question.Goals as goal

pub returns-clause-taken : goal.returns-clause-taken
returns-clause-taken c =
    let past : length c.args.self.now.looked.cells ≤ c.args.next.now = grind (arith, nat_tests, c.if-next-look_count.false, c.look_count.ensures) in
    let within = c.requires in
    let same = ap (λ (d : DeskLooks). d.looks) c.in_default.ensures.same in
    elim c.match-take_look-2.branch [
      | in-Some-take_look w ↦
          rw (← c.self.view_is, w.result-is) (takes_ask c.args.next.now _ _ (rw (← c.self.view_is) at past) (rw (← c.self.view_is) at within) refl _ same w.in-Some-take_look.ensures.there w.in-Some-take_look.ensures.some)
      | in-None w ↦
          rw (← c.self.view_is, w.result-is) (takes_none c.args.next.now _ _ (rw (← c.self.view_is) at past) (rw (← c.self.view_is) at within) refl same w.in-None.ensures.none.0 c.in_default.ensures.none w.in-None.ensures.none.1)
    ]

pub returns-then-next-look_count-clause-taken : goal.returns-then-next-look_count-clause-taken
returns-then-next-look_count-clause-taken c =
    let looked = c.args.self.now.looked in
    let within : c.args.next.now < length looked.cells = grind (arith, nat_tests, c.if-next-look_count.true, c.look_count.ensures) in
    takes_cell c.args.next.now looked looked c.nth_look-cell.result within (c.nth_look-cell.ensures ∙ ap (λ (v : StateView). slice_index v.looked.cells c.args.next.now) c.self.view_is) refl

pub returns-then-is_empty-clause-taken : goal.returns-then-is_empty-clause-taken
returns-then-is_empty-clause-taken c =
    let past : length c.args.self.now.looked.cells ≤ c.args.next.now = grind (arith, nat_tests, c.if-next-look_count.false, c.look_count.ensures) in
    let within = c.requires in
    let same = ap (λ (d : DeskLooks). d.looks) c.in_default.ensures.same in
    rw (← c.self.view_is) (takes_none c.args.next.now _ _ (rw (← c.self.view_is) at past) (rw (← c.self.view_is) at within) refl same refl c.in_default.ensures.none (c.if-is_empty.ensures.none refl))
