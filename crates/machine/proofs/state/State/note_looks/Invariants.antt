use Rattle.std.proofs.Common.{◌≡◌, ◌≤◌, length}
use Rattle.first_looks.specs.declared.question.Question.{Question}
use Rattle.first_looks.specs.FirstLooks.{step_of, or_else, step_if, step_below}
use Rattle.machine.specs.Machine.{is_looked_at, looks_from}
use Rattle.machine.specs.TakesQuestion.{look_count}
use Rattle.machine.proofs.state.State.note_looks.Given as goal

abbrev pub invariant-loop-question : goal.invariant-loop-question
invariant-loop-question l = record {
  same : (q : Question) → or_else (step_of l.first_looks q) (step_if (is_looked_at (looks_from l.next l.self.looked) q) l.first_looks.seen) ≡ or_else (step_of l.initial.first_looks q) (step_if (is_looked_at (looks_from l.from l.initial.self.looked) q) l.initial.first_looks.seen);
  below : (q : Question) → step_below l.first_looks.seen (step_of l.first_looks q) ≡ step_below l.first_looks.seen (step_of l.initial.first_looks q);
  seen : l.first_looks.seen ≡ l.initial.first_looks.seen;
  few : l.next ≤ length l.self.looked.cells;
  state : l.self.state ≡ l.initial.self.state;
  cells : l.self.looked.cells ≡ l.initial.self.looked.cells;
  beneath : l.self.beneath ≡ l.initial.self.beneath;
}

abbrev pub decreases-loop-question : goal.decreases-loop-question
decreases-loop-question l = look_count l.next l.self.looked
