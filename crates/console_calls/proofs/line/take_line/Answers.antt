use Rattle.std.proofs.Common.{ap, sym, ◌∙◌, arith}
use Rattle.console_calls.specs.LineAgrees.{line_step_of}
use Rattle.console_calls.proofs.Typing.{goes_typed, full_types, ends_types, boots_types, short_types, byte_is, no_byte}
use Rattle.console_calls.proofs.line.take_line.Goals as goal

pub returns-then-len-capacity-clause-types : goal.returns-then-len-capacity-clause-types
returns-then-len-capacity-clause-types c byte n within = full_types c.loop-offset.invariant.typed byte n (omega arith) (omega arith)

pub returns-in-Ends-clause-types : goal.returns-in-Ends-clause-types
returns-in-Ends-clause-types c byte n within =
    ends_types c.loop-offset.invariant.typed byte n (omega arith) (omega arith) _ (byte_is _ c.loop-offset.offset _ _ c.loop-offset.invariant.offset (omega arith)) _
    (sym (ap (λ t. line_step_of t c.take.new.self) c.in-Ends.is) ∙ c.in_ok-take.ensures.typed)

pub returns-in-Boots-clause-types : goal.returns-in-Boots-clause-types
returns-in-Boots-clause-types c byte n within =
    boots_types c.loop-offset.invariant.typed byte n (omega arith) (omega arith) _ (byte_is _ c.loop-offset.offset _ _ c.loop-offset.invariant.offset (omega arith))
    (sym (ap (λ t. line_step_of t c.take.new.self) c.in-Boots.is) ∙ c.in_ok-take.ensures.typed)

pub loop-offset-preserved : goal.loop-offset-preserved
loop-offset-preserved c = record {
  offset = omega arith;
  taken = omega arith;
  bound = omega arith;
  room = omega arith;
  typed = goes_typed c.loop-offset.invariant.typed (omega arith) _ (byte_is _ c.loop-offset.offset _ _ c.loop-offset.invariant.offset (omega arith))
      (sym (ap (λ t. line_step_of t c.take.new.self) c.in-Goes.is) ∙ c.in_ok-take.ensures.typed);
}

pub returns-then-len-capacity-2-clause-types : goal.returns-then-len-capacity-2-clause-types
returns-then-len-capacity-2-clause-types c byte n within = full_types c.loop-offset.invariant.typed byte n (omega arith) (omega arith)

pub returns-clause-types : goal.returns-clause-types
returns-clause-types c byte n within = short_types c.loop-offset.invariant.typed byte n (omega arith) (omega arith) (no_byte c.args.script.now c.args.cursor c.loop-offset.taken (omega arith))
