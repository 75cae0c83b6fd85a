use Rattle.std.proofs.Common.{◌≡◌, ◌≤◌, ◌<◌, ◌+◌, length}
use Rattle.console_calls.proofs.Typing.{IsTyped}
use Rattle.console_calls.proofs.line.take_line.Given as goal

abbrev pub invariant-loop-offset : goal.invariant-loop-offset
invariant-loop-offset l = record {
  offset : l.offset ≡ l.cursor + l.taken;
  taken : l.taken ≤ length l.script;
  bound : l.cursor + l.taken < 9223372036854775808;
  room : length l.line.stored ≤ l.capacity;
  typed : IsTyped l.script l.capacity l.cursor l.taken l.line;
}
