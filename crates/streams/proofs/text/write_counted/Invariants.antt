use Rattle.std.proofs.Common.{◌≡◌, ◌-◌, ◌≤◌, length, take}
use Rattle.std.specs.Io.KnownBytes.{Appends}
use Rattle.streams.proofs.text.write_counted.Given as goal

-- The first bytes are written.
abbrev pub invariant-loop-done : goal.invariant-loop-done
invariant-loop-done g l = record {
  within : l.done ≤ length l.text;
  bytes : Appends (g.W.Writer.output l.initial.writer).holds (g.W.Writer.output l.writer).holds (take l.done l.text);
  failures : (g.W.Writer.output l.writer).failures ≡ (g.W.Writer.output l.initial.writer).failures;
}

abbrev pub decreases-loop-done : goal.decreases-loop-done
decreases-loop-done g l = length l.text - l.done
