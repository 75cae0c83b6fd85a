use Rattle.std.proofs.Common.{inl, inr, refl, ◌∙◌}
use Rattle.std.proofs.lemmas.Result.{IfErr-weaker, IfOk-weaker, err_from_is_err_and}
use Rattle.folders.proofs.FilesLemmas.{same_files}
use Rattle.cpmrun.proofs.word_run.run_words.Goals as goal

pub returns-in_err-inputs-clause-fault : goal.returns-in_err-inputs-clause-fault
returns-in_err-inputs-clause-fault g c =
    let left = err_from_is_err_and c.from_residual-in_err-inputs.result c.from_residual-in_err-inputs.ensures.1 in
    let same = same_files c.in_ok-check_folders.ensures.unchanged in
    rw (left.1, left.2) (λ old new. inr (
      c.in_ok-check_rule.ensures.allowed,
      inl ((rw (same, c.session.ensures) at c.in_err-inputs.ensures.fault), (refl, (rw same at c.in_err-inputs.ensures.unchanged.bytes))),
    ))

pub returns-in_err-loaded-clause-fault : goal.returns-in_err-loaded-clause-fault
returns-in_err-loaded-clause-fault g c =
    let left = err_from_is_err_and c.from_residual-in_err-loaded.result c.from_residual-in_err-loaded.ensures.1 in
    let same = same_files c.in_ok-_locks.ensures.unchanged ∙ same_files c.in_ok-inputs.ensures.unchanged ∙ same_files c.in_ok-check_folders.ensures.unchanged in
    rw (left.1, left.2) (λ old new. inr (
      c.in_ok-check_rule.ensures.allowed,
      inl ((rw (same, c.session-2.ensures) at c.in_err-loaded.ensures.fault), (refl, (rw same at c.in_err-loaded.ensures.unchanged.bytes))),
    ))

pub returns-clause-done : goal.returns-clause-done
returns-clause-done g c =
    let first = same_files c.in_ok-_locks.ensures.unchanged ∙ same_files c.in_ok-inputs.ensures.unchanged ∙ same_files c.in_ok-check_folders.ensures.unchanged in
    let same = same_files c.in_ok-loaded.ensures.unchanged ∙ first in
    IfOk-weaker c.run_loaded.result _ _ (λ status h. record {
      allowed = c.in_ok-check_rule.ensures.allowed;
      s = c.in_ok-loaded.loaded.session;
      listings = c.in_ok-loaded.loaded.listings;
      of = rw (first, c.session-2.ensures) at c.in_ok-loaded.ensures.session;
      listed = rw (first, c.session-2.ensures) at c.in_ok-loaded.ensures.names;
      done = rw (same, c.in_ok-_locks.ensures.err) at h;
    }) c.run_loaded.ensures.done

pub returns-clause-fault : goal.returns-clause-fault
returns-clause-fault g c =
    let first = same_files c.in_ok-_locks.ensures.unchanged ∙ same_files c.in_ok-inputs.ensures.unchanged ∙ same_files c.in_ok-check_folders.ensures.unchanged in
    let same = same_files c.in_ok-loaded.ensures.unchanged ∙ first in
    IfErr-weaker c.run_loaded.result _ _ (λ fault h old new. inr (
      c.in_ok-check_rule.ensures.allowed,
      inr (
        c.in_ok-loaded.loaded.session,
        c.in_ok-loaded.loaded.listings,
        (rw (first, c.session-2.ensures) at c.in_ok-loaded.ensures.session),
        (rw (first, c.session-2.ensures) at c.in_ok-loaded.ensures.names),
        (rw same at (h old new)),
      ),
    )) c.run_loaded.ensures.fault
