use Rattle.std.proofs.Common.{◌≡◌, ◌≤◌, ◌+◌, drop}
use Rattle.console_calls.specs.Desk as desk
use Rattle.console_calls.proofs.desk.column_after_all.Given as goal

abbrev pub invariant-loop-byte : goal.invariant-loop-byte
invariant-loop-byte l = record {
  rest : desk.column_after_all l.after (drop l.byte-index l.bytes) ≡ desk.column_after_all l.column l.bytes;
  within : l.after ≤ l.column + l.byte-index;
}
