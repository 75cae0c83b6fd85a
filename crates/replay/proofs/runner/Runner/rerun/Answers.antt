use Rattle.std.proofs.Common.{◌≡◌, refl, sym, ap, subst}
use Rattle.machine.specs.PlainState.{PlainRun, plain_run}
use Rattle.machine.proofs.ColdLemmas.{reports_run}
use Rattle.replay.proofs.RingLemmas.{on_err}
use Rattle.replay.proofs.OutcomeLemmas.{if_err, match_err}
use Rattle.replay.proofs.RunnerLemmas.{all_stand}
use Rattle.replay.proofs.StepsLemmas.{reran, reran_each, rerun_begins}
use Rattle.replay.proofs.runner.Runner.rerun.Goals as goal

pub returns-in_err-steps : goal.returns-in_err-steps
returns-in_err-steps c =
    let text = c.self.inside.last_run.text.items in
    let ring = c.self.inside.checkpoints.ring.items in
    let limit = c.self.inside.last_run.session.limit in
    rw (← c.self.view_is, rerun_begins text ring limit) (
      (
        refl,
        (λ _. tt),
        (
          c.run_again.ensures.session.0,
          record { spacing = c.run_again.ensures.options.1; slots = c.run_again.ensures.options.0 },
          all_stand _ _ _ c.run_again.ensures.sound.valid,
          match_err c.from_residual.result _ _ c.from_residual.ensures.0 (
              reran text c.run_again.new.last_run.text.items ring c.run_again.new.checkpoints.ring.items _ _ _ _ _ c.run_again.ensures.sound.rising c.in_err-steps.ensures.adds
              ),
        ),
      ),
      record {
        ends = tt;
        run = if_err c.from_residual.result _ c.from_residual.ensures.0;
        session = if_err c.from_residual.result _ c.from_residual.ensures.0;
        ticked = if_err c.from_residual.result _ c.from_residual.ensures.0;
        broken_off = on_err c.from_residual.result _ c.in_err-steps.ensures.broken_off;
        metered = c.run_again.ensures.metered.1;
        rises = c.run_again.ensures.metered.0;
      },
    )

pub invariant_of-result-clause-of_run : goal.invariant_of-result-clause-of_run
invariant_of-result-clause-of_run c = reports_run _ _ _ _ _ c.run_again.ensures.session.1 c.run_again.ensures.session.0 c.in_ok-steps.ensures.cold

pub returns : goal.returns
returns c =
    let text = c.self.inside.last_run.text.items in
    let ring = c.self.inside.checkpoints.ring.items in
    let limit = c.self.inside.last_run.session.limit in
    let is : (plain_run c.run_again.new.last_run.session).steps ≡ c.in_ok-steps.steps =
    sym (ap (λ (run : PlainRun). run.steps) (reports_run _ _ _ _ _ c.run_again.ensures.session.1 c.run_again.ensures.session.0 c.in_ok-steps.ensures.cold)) in
    rw (← c.self.view_is, rerun_begins text ring limit, is) (
      (
        refl,
        (λ _. tt),
        (
          c.run_again.ensures.session.0,
          record { spacing = c.run_again.ensures.options.1; slots = c.run_again.ensures.options.0 },
          all_stand _ _ _ c.run_again.ensures.sound.valid,
          reran_each text c.run_again.new.last_run.text.items ring c.run_again.new.checkpoints.ring.items _ _ _ _ _ c.run_again.ensures.sound.rising c.in_ok-steps.ensures.adds,
        ),
      ),
      record {
        ends = tt;
        run =
            let run = plain_run c.run_again.new.last_run.session in
            subst (λ n. ◌≡◌ {A = PlainRun} (record { state = run.state; steps = n; cause = run.cause }) (plain_run c.self.inside.last_run.session)) is
            (ap plain_run c.run_again.ensures.session.0);
        session = c.run_again.ensures.session.0;
        ticked = c.in_ok-steps.ensures.ticked;
        broken_off = tt;
        metered = c.run_again.ensures.metered.1;
        rises = c.run_again.ensures.metered.0;
      },
    )
