use Rattle.std.proofs.Common.{◌⊎◌, ℕ, Option, ap, rules, subst}
use Rattle.streams.specs.Streams.{Output, WritesPart}
use Rattle.streams.proofs.WrittenPieces.{all_written, part_written}
use Rattle.tracing.specs.Trace.{all_lines, console_text, last_lines, trace_text}
use Rattle.tracing.proofs.TraceLemmas.{trace_is}
use Rattle.one_run.specs.RunTexts.{WritesFirst}
use Rattle.one_run.proofs.Texts.{either_written}
use Rattle.one_run.proofs.running.write_both.Goals as goal

pub returns-in_default-clause-fault : goal.returns-in_default-clause-fault
returns-in_default-clause-fault g c =
    let s = c.args.run.now.session in
    let trace = trace_text c.args.choice.now s in
    let ended = c.push_both-ended.ensures in
    let lines_part = rw (trace_is c.args.choice.now s 0 (ap (λ (last : Option ℕ). last_lines last (all_lines c.args.choice.now s)) c.requires.all)) at ended.lines.part in
    let out = rw c.new-console.ensures.start at (part_written c.new-console.ensures.said ended.console.part c.flush.ensures.same c.in_default.ensures.written) in
    let lines = rw c.new-lines.ensures.start at (either_written c.new-lines.ensures.said lines_part c.flush-2.ensures.same c.finish-lines.result c.finish-lines.ensures.written) in (
      subst (λ (o : Output). WritesPart (g.O.Writer.output c.args.out.now) o (console_text s)) (search rules) out,
      subst (λ (o : Output). WritesFirst (g.T.Writer.output c.args.trace.now) o trace ⊎ WritesPart (g.T.Writer.output c.args.trace.now) o trace) (search rules) lines,
    )

pub returns-in_default-lines-clause-fault : goal.returns-in_default-lines-clause-fault
returns-in_default-lines-clause-fault g c =
    let s = c.args.run.now.session in
    let trace = trace_text c.args.choice.now s in
    let ended = c.push_both-ended.ensures in
    let lines_part = rw (trace_is c.args.choice.now s 0 (ap (λ (last : Option ℕ). last_lines last (all_lines c.args.choice.now s)) c.requires.all)) at ended.lines.part in
    let out = rw c.new-console.ensures.start at (all_written c.new-console.ensures.said ended.console.part c.flush.ensures.same c.in-Ok.ensures.written) in
    let lines = rw c.new-lines.ensures.start at (part_written c.new-lines.ensures.said lines_part c.flush-2.ensures.same c.in_default-lines.ensures.written) in (
      subst (λ (o : Output). WritesFirst (g.O.Writer.output c.args.out.now) o (console_text s)) (search rules) out,
      subst (λ (o : Output). WritesPart (g.T.Writer.output c.args.trace.now) o trace) (search rules) lines,
    )

pub returns-in_default-ended-clause-fault : goal.returns-in_default-ended-clause-fault
returns-in_default-ended-clause-fault g c =
    let s = c.args.run.now.session in
    let trace = trace_text c.args.choice.now s in
    let ended = c.push_both-ended.ensures in
    let lines_part = rw (trace_is c.args.choice.now s 0 (ap (λ (last : Option ℕ). last_lines last (all_lines c.args.choice.now s)) c.requires.all)) at ended.lines.part in
    let out = rw c.new-console.ensures.start at (all_written c.new-console.ensures.said ended.console.part c.flush.ensures.same c.in-Ok.ensures.written) in
    let lines = rw c.new-lines.ensures.start at (all_written c.new-lines.ensures.said lines_part c.flush-2.ensures.same c.in-Ok-lines.ensures.written) in (
      subst (λ (o : Output). WritesFirst (g.O.Writer.output c.args.out.now) o (console_text s)) (search rules) out,
      subst (λ (o : Output). WritesFirst (g.T.Writer.output c.args.trace.now) o trace) (search rules) lines,
    )

pub returns-clause-trace : goal.returns-clause-trace
returns-clause-trace g c =
    let s = c.args.run.now.session in
    rw (← trace_is c.args.choice.now s 0 (ap (λ (last : Option ℕ). last_lines last (all_lines c.args.choice.now s)) c.requires.all)) (search rules)
