use Rattle.std.proofs.Common.{◌≡◌, length, map, take}
use Rattle.std.specs.List.{range_with_len}
use Rattle.std.specs.Prelude.{slice_index}
use Rattle.i8080.specs.Registers.{onward}
use Rattle.machine.specs.Runs.{state_of}
use Rattle.trace_lines.proofs.call_lines.block_at.Given as goal

abbrev pub invariant-loop-i : goal.invariant-loop-i
invariant-loop-i l = record {
  count : length l.bytes ≡ 36;
  read : take l.i l.bytes ≡ map (λ k. slice_index (state_of l.run).memory (onward l.at k)) (range_with_len 0 l.i);
}
