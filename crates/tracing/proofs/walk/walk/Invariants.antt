use Rattle.std.proofs.Common.{◌≡◌, None, Some, take}
use Rattle.machine.specs.Runs.{asked_by}
use Rattle.streams.specs.Pushing.{more}
use Rattle.tracing.specs.Trace.{console_text}
use Rattle.tracing.specs.Walks.{IsWithin, lines_left, walked, with_lines}
use Rattle.tracing.proofs.Walking.{left_to}
use Rattle.tracing.proofs.walk.walk.Given as goal

abbrev pub invariant-loop-run : goal.invariant-loop-run
invariant-loop-run g l = record {
  session : l.run.session ≡ l.initial.run.session;
  within : IsWithin l.run l.run.session.limit l.stop;
  noted : l.initial.run.seen ≡ Some l.initial.run.step → l.run.seen ≡ Some (asked_by l.run.step l.stop);
  console : g.X.Text.pushed l.console ≡ more (g.X.Text.pushed l.initial.console) (take l.sent.bytes (console_text l.initial.run.session));
  lines : with_lines (walked (g.Y.Text.pushed l.lines) l.walker.skip) (lines_left l.choice l.run l.stop)
      ≡ with_lines (walked (g.Y.Text.pushed l.initial.lines) l.initial.walker.skip) (lines_left l.choice l.initial.run None);
  err : g.E.Writer.output l.err ≡ g.E.Writer.output l.initial.err;
}

abbrev pub decreases-loop-run : goal.decreases-loop-run
decreases-loop-run g l = left_to l.stop l.run.session.limit l.run.step
