use Rattle.std.proofs.Common.{◌∙◌, refl, sym, ap}
use Rattle.std.specs.Ordering.{is_lt}
use Rattle.std.specs.Cmp.Lexicographic.{nat_list_cmp_total}
use Rattle.std.specs.FinMap.{from_entries}
use Rattle.keymaps.proofs.Left.{is_less}
use Rattle.keymaps.proofs.Views.{get_view, below_least}
use Rattle.first_looks.proofs.record_steps.RecordSteps.next_file.Goals as goal
use Rattle.first_looks.proofs.record_steps.RecordSteps.next_file.Goals.{in-Some, in-None}

pub returns-in_err-key-clause-least : goal.returns-in_err-key-clause-least
returns-in_err-key-clause-least c = rw (c.from_residual.ensures, ← c.self.view_is) (λ x above.
    (c.range-rest.ensures.in_range tt).5 c.in_err-key.ensures.steps.0 x (elim c.match-after.branch [
      | in-Some w ↦ rw w.start-is (is_less _ (rw w.in-Some.is at above), tt)
      | in-None w ↦ rw w.start-is (tt, tt)
    ]))

pub returns-clause-least : goal.returns-clause-least
returns-clause-least c = (
  elim c.match-after.branch [
    | in-Some w ↦ rw w.in-Some.is (ap is_lt (rw (w.start-is, c.in_ok-key.ensures.steps) at (c.range-rest.ensures.in_range tt).1).0.0)
    | in-None w ↦ rw w.in-None.is refl
  ],
  λ x above below.
      let h = rw c.in_ok-key.ensures.steps at (c.range-rest.ensures.in_range tt).2 x (elim c.match-after.branch [
        | in-Some w ↦ rw w.start-is (is_less _ (rw w.in-Some.is at above), tt)
        | in-None w ↦ rw w.start-is (tt, tt)
      ]) in
      rw (← c.self.view_is) (sym (get_view nat_list_cmp_total _ x) ∙ below_least nat_list_cmp_total c.self.inside.files.entries (from_entries c.self.inside.files.entries) refl _ x h below),
)
