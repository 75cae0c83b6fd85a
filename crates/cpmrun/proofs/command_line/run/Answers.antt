use Rattle.std.proofs.Common.{refl, inl, inr, ◌∙◌}
use Rattle.std.proofs.lemmas.Result.{err_from_is_err_and}
use Rattle.cpmrun.specs.MeteredEnds.{by_runner}
use Rattle.cpmrun.proofs.Choosing.{ran_once, replayed, replay_broken, run_broken}
use Rattle.cpmrun.proofs.command_line.run.Goals as goal

pub returns-in_default-clause-done : goal.returns-in_default-clause-done
returns-in_default-clause-done g c =
    let are = rw c.in-Session.is at c.in_ok-words.ensures.request in
    ran_once (by_runner c.args.meter.now) _ c.in-Session.words are _ _ c.run_words.result c.in_default.is c.run_words.ensures.failed c.run_words.ensures.done

pub returns-in_default-clause-fault : goal.returns-in_default-clause-fault
returns-in_default-clause-fault g c =
    let are = rw c.in-Session.is at c.in_ok-words.ensures.request in
    run_broken (by_runner c.args.meter.now) _ c.in-Session.words are _ _ _ _ c.run_words.result c.in_default.is c.run_words.ensures.fault

pub returns-in_err-loaded-clause-fault : goal.returns-in_err-loaded-clause-fault
returns-in_err-loaded-clause-fault g c =
    let are = rw c.in-Session.is at c.in_ok-words.ensures.request in
    let left = err_from_is_err_and c.from_residual-in_err-loaded.result c.from_residual-in_err-loaded.ensures.1 in
    rw (left.1, left.2) (replay_broken (by_runner c.args.meter.now) _ c.in-Session.words are _ _ _ _ c.in-Some.path _ c.in-Some.is
    (λ old new. inr (tt, inl ((rw c.session.ensures at c.in_err-loaded.ensures.fault), (refl, c.in_err-loaded.ensures.unchanged.bytes)))))

pub returns-in_err-replay_file-clause-fault : goal.returns-in_err-replay_file-clause-fault
returns-in_err-replay_file-clause-fault g c =
    let are = rw c.in-Session.is at c.in_ok-words.ensures.request in
    let left = err_from_is_err_and c.from_residual-in_err-replay_file.result c.from_residual-in_err-replay_file.ensures.1 in
    let same = c.replay_file.ensures.unchanged.bytes ∙ c.load.ensures.unchanged.bytes in
    rw (left.1, left.2) (replay_broken (by_runner c.replay_file.new.meter) _ c.in-Session.words are _ _ _ _ c.in-Some.path _ c.in-Some.is (λ old new. inr (
      tt,
      inr (
        c.in_ok-loaded.loaded.session,
        c.in_ok-loaded.loaded.listings,
        (rw c.session.ensures at c.in_ok-loaded.ensures.session),
        (rw c.session.ensures at c.in_ok-loaded.ensures.names),
        ((rw (c.load.ensures.unchanged.bytes, c.into_session-session.ensures) at c.in_err-replay_file.ensures.fault), same),
      ),
    )))

pub returns-clause-done : goal.returns-clause-done
returns-clause-done g c =
    let are = rw c.in-Session.is at c.in_ok-words.ensures.request in
    let same = c.replay_file.ensures.unchanged.bytes ∙ c.load.ensures.unchanged.bytes in
    let failed = c.in_ok-replay_file.ensures.unchanged.failed ∙ c.in_ok-loaded.ensures.unchanged.failed in
    replayed (by_runner c.replay_file.new.meter) _ c.in-Session.words are c.in-Some.path _ _ c.in-Some.is failed (record {
      allowed = tt;
      s = c.in_ok-loaded.loaded.session;
      of = rw c.session.ensures at c.in_ok-loaded.ensures.session;
      listings = c.in_ok-loaded.loaded.listings;
      listed = rw c.session.ensures at c.in_ok-loaded.ensures.names;
      done = (refl, (refl, same, rw (c.load.ensures.unchanged.bytes, c.options.ensures, c.into_session-session.ensures) at c.in_ok-replay_file.ensures.done));
    })
