use Rattle.std.proofs.Common.{inr, inl, refl}
use Rattle.std.proofs.lemmas.Result.{IfErr-weaker, IfOk-weaker, err_from_is_err_and}
use Rattle.folders.proofs.FilesLemmas.{same_files}
use Rattle.requests.specs.World.{world}
use Rattle.cpmrun.proofs.word_run.run_loaded.Goals as goal

pub returns-in_err-run-clause-fault : goal.returns-in_err-run-clause-fault
returns-in_err-run-clause-fault g c =
    let same = same_files c.in_ok-check_reports.ensures.unchanged in
    let left = err_from_is_err_and c.from_residual-in_err-run.result c.from_residual-in_err-run.ensures.1 in
    rw (left.1, left.2) (λ old new. inr (inl (c.in_err-run.ensures.fault, (rw same at c.in_err-run.ensures.part))))

pub returns-clause-done : goal.returns-clause-done
returns-clause-done g c =
    let same = same_files c.in_ok-check_reports.ensures.unchanged in
    let out = g.O.Writer.output c.run_streams.new.out in
    let streamed = world (g.S.FileSystem.files c.run_streams.new.system) out (g.E.Writer.output c.args.err.now) in
    IfOk-weaker c.finish.result _ _ (λ status done. (
      streamed,
      (c.in_ok-run.ensures.done, (rw same at c.in_ok-run.ensures.trace), refl),
      (rw (c.in_ok-run.ensures.session, c.in_ok-run.ensures.err) at done out),
    )) c.finish.ensures.done

pub returns-clause-fault : goal.returns-clause-fault
returns-clause-fault g c =
    let same = same_files c.in_ok-check_reports.ensures.unchanged in
    let out = g.O.Writer.output c.run_streams.new.out in
    IfErr-weaker c.finish.result _ _ (λ fault leaves. λ old new. inr (inr (
      world (g.S.FileSystem.files c.run_streams.new.system) out old,
      (c.in_ok-run.ensures.done, (rw same at c.in_ok-run.ensures.trace), refl),
      (rw c.in_ok-run.ensures.session at leaves out old new),
    ))) c.finish.ensures.fault
