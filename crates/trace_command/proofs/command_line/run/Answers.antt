use Rattle.std.proofs.Common.{ap, refl, inl, inr}
use Rattle.std.proofs.lemmas.Result.{IfErr-weaker, err_from_is_err_and}
use Rattle.folders.proofs.FilesLemmas.{same_files}
use Rattle.folders.specs.FileSystem.{StoredFiles}
use Rattle.requests.proofs.Ending.{OnOk-weaker, leaves_files}
use Rattle.tracing.specs.Trace.{trace_text}
use Rattle.trace_command.proofs.Answering.{no_paths}
use Rattle.trace_command.proofs.command_line.run.Goals as goal

pub returns-in_err-choice-clause-fault : goal.returns-in_err-choice-clause-fault
returns-in_err-choice-clause-fault g c =
    let are = rw c.in-Session.is at c.in_ok-words.ensures.request in
    let left = err_from_is_err_and c.from_residual-in_err-choice.result c.from_residual-in_err-choice.ensures.1 in
    rw (left.1, left.2) (λ err. inr (inr (c.in-Session.words, are, inl (c.in_err-choice.ensures.fault, (refl, refl)))))

pub returns-in_err-loaded-clause-fault : goal.returns-in_err-loaded-clause-fault
returns-in_err-loaded-clause-fault g c =
    let are = rw c.in-Session.is at c.in_ok-words.ensures.request in
    let left = err_from_is_err_and c.from_residual-in_err-loaded.result c.from_residual-in_err-loaded.ensures.1 in
    rw (left.1, left.2) (λ err. inr (inr (
      c.in-Session.words,
      are,
      inr ((c.in_ok-choice.choice, c.in_ok-choice.ensures.choice), inl (c.in_err-loaded.ensures.fault, (refl, c.load.ensures.unchanged.bytes))),
    )))

pub returns-clause-done : goal.returns-clause-done
returns-clause-done g c =
    let are = rw c.in-Session.is at c.in_ok-words.ensures.request in
    let loaded = c.in_ok-loaded.ensures in
    OnOk-weaker c.write_trace.result (λ written err. record {
      failed = ap (λ (f : StoredFiles). f.failed) (same_files loaded.unchanged);
      did = inr (
        c.in-Session.words,
        are,
        record {
          allowed = (c.in_ok-choice.choice, c.in_ok-choice.ensures.choice);
          s = c.in_ok-loaded.loaded.session;
          of = loaded.session;
          listings = c.in_ok-loaded.loaded.listings;
          listed = loaded.names;
          done = (refl, (c.in_ok-choice.choice, c.in_ok-choice.ensures.choice, (written, loaded.unchanged.bytes, refl)));
        },
      );
    }) c.write_trace.ensures.done

pub returns-clause-fault : goal.returns-clause-fault
returns-clause-fault g c =
    let are = rw c.in-Session.is at c.in_ok-words.ensures.request in
    let loaded = c.in_ok-loaded.ensures in
    IfErr-weaker c.write_trace.result _ _ (λ f breaks err. inr (inr (
      c.in-Session.words,
      are,
      inr (
        (c.in_ok-choice.choice, c.in_ok-choice.ensures.choice),
        inr (
          c.in_ok-loaded.loaded.session,
          c.in_ok-loaded.loaded.listings,
          loaded.session,
          loaded.names,
          (c.in_ok-choice.choice, c.in_ok-choice.ensures.choice, (breaks, loaded.unchanged.bytes)),
        ),
      ),
    ))) c.write_trace.ensures.fault

pub returns-clause-unchanged : goal.returns-clause-unchanged
returns-clause-unchanged g c =
    leaves_files c.write_trace.result _ _ _ (no_paths (trace_text c.in_ok-choice.choice c.in_ok-loaded.loaded.session) _ _) (same_files c.in_ok-loaded.ensures.unchanged)
    c.write_trace.ensures.fault
