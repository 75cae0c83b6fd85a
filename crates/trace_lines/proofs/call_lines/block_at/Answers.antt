use Rattle.std.proofs.Common.{arith, rules, slice_index, ◌∙◌}
use Rattle.machine.specs.Runs.{state_of}
use Rattle.trace_lines.specs.CallLines.{address_in, block_in}
use Rattle.trace_lines.proofs.BlockLemmas.{read_all, read_more}
use Rattle.trace_lines.proofs.call_lines.block_at.Goals as goal

pub loop-i-preserved : goal.loop-i-preserved
loop-i-preserved c = record {
  count = search rules;
  read = read_more _ c.loop-i.bytes c.loop-i.i _ _ (omega arith) (search rules) (search rules) c.loop-i.invariant.read;
}

pub returns : goal.returns
unfolding block_in
returns c =
    let w = state_of c.args.run.now in
    c.from_bytes.ensures ∙ read_all (slice_index w.memory) c.loop-i.bytes c.loop-i.i 36 _ (address_in w.core.regs) (omega arith) (omega arith) (search rules) c.loop-i.invariant.read
