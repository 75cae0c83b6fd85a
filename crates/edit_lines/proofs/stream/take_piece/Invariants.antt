use Rattle.std.proofs.Common.{◌≡◌, ℕ, ◌+◌, ◌*◌, ◌≤◌, List, ◌++◌, length, vec_len}
use Rattle.machine.specs.declared.session.TheConstants.{STEP_LIMIT}
use Rattle.edit_lines.specs.Progress.{Takes, replay_state}
use Rattle.edit_lines.proofs.stream.take_piece.Given as goal

-- Some first bytes of the piece were taken, and the others are left.
abbrev pub invariant-loop-at : goal.invariant-loop-at
invariant-loop-at g l = record {
  taken : List ℕ;
  split : taken ++ l.rest ≡ l.piece;
  takes : Takes l.initial.buffer.lines (replay_state l.initial.runner l.initial.meter (g.W.Writer.output l.initial.writer)) l.initial.buffer.line.items
      taken l.buffer.lines (replay_state l.runner l.meter (g.W.Writer.output l.writer)) l.buffer.line.items;
  meter : l.meter ≤ STEP_LIMIT * l.buffer.lines;
  on : 65537 * l.initial.buffer.lines + vec_len l.initial.buffer.line + length taken ≤ 65537 * l.buffer.lines + vec_len l.buffer.line;
}

abbrev pub decreases-loop-at : goal.decreases-loop-at
decreases-loop-at g l = length l.rest
