use Rattle.std.proofs.Common.{◌≡◌, ℕ, ◌+◌, ◌-◌, ◌*◌, ◌≤◌, List, [], vec_len}
use Rattle.std.specs.Io.KnownBytes.{Consumes}
use Rattle.machine.specs.declared.session.TheConstants.{STEP_LIMIT}
use Rattle.edit_lines.specs.Progress.{Takes, replay_state}
use Rattle.edit_lines.proofs.stream.replay.Given as goal

-- The bytes that were read were taken.
abbrev pub invariant-loop-count : goal.invariant-loop-count
invariant-loop-count g l = record {
  bytes : List ℕ;
  consumed : Consumes (g.R.Reader.input l.initial.reader).left (g.R.Reader.input l.reader).left bytes;
  takes : Takes 0 (replay_state l.initial.runner l.initial.meter (g.W.Writer.output l.initial.writer)) [] bytes
      l.buffer.lines (replay_state l.runner l.meter (g.W.Writer.output l.writer)) l.buffer.line.items;
  failures : (g.R.Reader.input l.reader).failures ≡ (g.R.Reader.input l.initial.reader).failures;
  meter : l.meter ≤ STEP_LIMIT * l.buffer.lines;
}

abbrev pub decreases-loop-count : goal.decreases-loop-count
decreases-loop-count g l = 65537 * 1000001 - (65537 * l.buffer.lines + vec_len l.buffer.line)
