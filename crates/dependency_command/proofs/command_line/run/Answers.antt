use Rattle.std.proofs.Common.{ap, refl, inl, inr}
use Rattle.std.proofs.lemmas.Result.{IfErr-weaker, err_from_is_err_and}
use Rattle.folders.proofs.FilesLemmas.{same_files}
use Rattle.folders.specs.FileSystem.{StoredFiles}
use Rattle.requests.proofs.Ending.{OnOk-both, leaves_files}
use Rattle.dependency_command.proofs.Answering.{no_paths}
use Rattle.dependency_command.proofs.command_line.run.Goals as goal

pub returns-in_err-check_words-clause-fault : goal.returns-in_err-check_words-clause-fault
returns-in_err-check_words-clause-fault g c =
    let are = rw c.in-Session.is at c.in_ok-words.ensures.request in
    let left = err_from_is_err_and c.from_residual-in_err-check_words.result c.from_residual-in_err-check_words.ensures.1 in
    rw (left.1, left.2) (λ err. inr (inr (c.in-Session.words, are, inl (c.in_err-check_words.ensures.refused, (refl, refl)))))

pub returns-in_err-loaded-clause-fault : goal.returns-in_err-loaded-clause-fault
returns-in_err-loaded-clause-fault g c =
    let are = rw c.in-Session.is at c.in_ok-words.ensures.request in
    let left = err_from_is_err_and c.from_residual-in_err-loaded.result c.from_residual-in_err-loaded.ensures.1 in
    rw (left.1, left.2) (λ err. inr (inr (
      c.in-Session.words,
      are,
      inr (c.in_ok-check_words.ensures.allowed, inl (c.in_err-loaded.ensures.fault, (refl, c.load.ensures.unchanged.bytes))),
    )))

pub returns-clause-done : goal.returns-clause-done
returns-clause-done g c =
    let are = rw c.in-Session.is at c.in_ok-words.ensures.request in
    let loaded = c.in_ok-loaded.ensures in
    OnOk-both c.write_answer.result (λ written reported. record {
      failed = ap (λ (f : StoredFiles). f.failed) (same_files loaded.unchanged);
      did = inr (
        c.in-Session.words,
        are,
        record {
          allowed = c.in_ok-check_words.ensures.allowed;
          s = c.in_ok-loaded.loaded.session;
          of = loaded.session;
          listings = c.in_ok-loaded.loaded.listings;
          listed = loaded.names;
          done = (refl, (written, reported));
        },
      );
    }) c.write_answer.ensures.done c.write_answer.ensures.reported

pub returns-clause-fault : goal.returns-clause-fault
returns-clause-fault g c =
    let are = rw c.in-Session.is at c.in_ok-words.ensures.request in
    let loaded = c.in_ok-loaded.ensures in
    IfErr-weaker c.write_answer.result _ _ (λ f breaks err. inr (inr (
      c.in-Session.words,
      are,
      inr (c.in_ok-check_words.ensures.allowed, inr (c.in_ok-loaded.loaded.session, c.in_ok-loaded.loaded.listings, loaded.session, loaded.names, breaks)),
    ))) c.write_answer.ensures.fault

pub returns-clause-unchanged : goal.returns-clause-unchanged
returns-clause-unchanged g c =
    leaves_files c.write_answer.result _ _ _ (no_paths _ _ _) (same_files c.in_ok-loaded.ensures.unchanged) c.write_answer.ensures.fault
