use Rattle.std.proofs.Common.{◌≡◌, ◌-◌, ◌≤◌, max, true}
use Rattle.machine.specs.declared.noting.Noting.TheVariants.{Looks}
use Rattle.machine.specs.declared.stretch.Until.TheVariants.{Call}
use Rattle.machine.specs.Machine.{session_answers}
use Rattle.machine.specs.Runs.{IsAt, KeepsNotes}
use Rattle.machine.specs.Stretch.{CallsNothing, needs_notes}
use Rattle.machine.proofs.stretch.run_until.Given as goal

abbrev pub invariant-loop-step : goal.invariant-loop-step
invariant-loop-step l = record {
  run : IsAt l.session l.step l.state l.notes;
  within : (l.initial.step ≤ l.step) × (l.step ≤ l.end);
  notes : KeepsNotes l.initial.notes l.notes;
  on : needs_notes l.until ≡ true → l.notes.noting ≡ l.initial.notes.noting;
  seen : l.notes.noting ≡ Looks → l.notes.looks.seen ≡ max l.initial.notes.looks.seen l.step;
  calls : l.until ≡ Call → CallsNothing (session_answers l.session) l.initial.step l.step;
}

abbrev pub decreases-loop-step : goal.decreases-loop-step
decreases-loop-step l = l.end - l.step
