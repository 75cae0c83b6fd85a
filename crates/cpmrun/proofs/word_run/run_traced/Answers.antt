use Rattle.std.proofs.Common.{inl, inr, take}
use Rattle.folders.proofs.WrittenFiles.{written}
use Rattle.one_run.specs.Trace.{console_text, each_call, trace_text}
use Rattle.cpmrun.proofs.Streaming.{breaks_by_trace, console_part, none_written, paths_failed, trace_part}
use Rattle.cpmrun.proofs.word_run.run_traced.Goals as goal

pub returns-in-Err-clause-fault : goal.returns-in-Err-clause-fault
returns-in-Err-clause-fault g c =
    let text = console_text c.args.start.session.now in
    let fails = rw c.in_ok-named.ensures.ok at c.write_failure.ensures.fault in
    breaks_by_trace c.args.words.now c.args.path.now text _ _ c.write_failure.result c.into.result c.requires c.into.ensures fails (inl (none_written _ text))

pub returns-in-Err-close-clause-fault : goal.returns-in-Err-close-clause-fault
returns-in-Err-close-clause-fault g c =
    let text = console_text c.args.start.session.now in
    let fails = rw c.in_ok-named.ensures.ok at c.write_failure-in-Err-close.ensures.fault in
    let ran = c.run_to_end-ran in
    breaks_by_trace c.args.words.now c.args.path.now text _ _ c.write_failure-in-Err-close.result c.into-in-Err-close.result c.requires c.into-in-Err-close.ensures fails
    (console_part text _ _ _ _ _ ran.result ran.ensures.console ran.ensures.fault)

pub returns-in-Err-close-clause-part : goal.returns-in-Err-close-clause-part
returns-in-Err-close-clause-part g c =
    let s = c.args.start.session.now in
    let ran = c.run_to_end-ran in
    let part = rw c.each_call.ensures at (trace_part (console_text s) (trace_text c.each_call.result s) _ _ _ _ ran.result ran.ensures.trace ran.ensures.fault) in
    inr (part.0, written c.args.path.now (g.S.FileSystem.files c.args.system.now) (g.S.FileSystem.files c.create.new.self) (g.S.FileSystem.files c.close.new.self) _ (g.S.Output.Writer.output c.run_to_end-ran.new.trace) (take part.0 (trace_text each_call s)) c.in-Ok.ensures.opened c.in-Ok.ensures.made c.in-Ok.ensures.special part.1 c.in-Err-close.ensures.written)

pub returns-in-Err-close-clause-failed : goal.returns-in-Err-close-clause-failed
returns-in-Err-close-clause-failed g c =
    let paths = rw c.in_ok-named.ensures.ok at c.write_failure-in-Err-close.ensures.paths in
    paths_failed c.write_failure-in-Err-close.result c.into-in-Err-close.result _ _ _ _ c.into-in-Err-close.ensures paths c.in-Ok.ensures.failed c.in-Err-close.ensures.failed

pub returns-in-Ok-ran-clause-trace : goal.returns-in-Ok-ran-clause-trace
returns-in-Ok-ran-clause-trace g c =
    let s = c.args.start.session.now in
    let whole = rw c.each_call.ensures at c.in-Ok-ran.ensures.trace in
    written c.args.path.now (g.S.FileSystem.files c.args.system.now) (g.S.FileSystem.files c.create.new.self) (g.S.FileSystem.files c.close.new.self) _ (g.S.Output.Writer.output c.run_to_end-ran.new.trace) (trace_text each_call s) c.in-Ok.ensures.opened c.in-Ok.ensures.made c.in-Ok.ensures.special whole.bytes c.in_default.ensures.written

pub returns-clause-part : goal.returns-clause-part
returns-clause-part g c =
    let s = c.args.start.session.now in
    let ran = c.run_to_end-ran in
    let part = rw c.each_call.ensures at (trace_part (console_text s) (trace_text c.each_call.result s) _ _ _ _ ran.result ran.ensures.trace ran.ensures.fault) in
    inr (part.0, written c.args.path.now (g.S.FileSystem.files c.args.system.now) (g.S.FileSystem.files c.create.new.self) (g.S.FileSystem.files c.close.new.self) _ (g.S.Output.Writer.output c.run_to_end-ran.new.trace) (take part.0 (trace_text each_call s)) c.in-Ok.ensures.opened c.in-Ok.ensures.made c.in-Ok.ensures.special part.1 c.in_default.ensures.written)
