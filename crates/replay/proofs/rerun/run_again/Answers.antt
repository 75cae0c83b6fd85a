use Rattle.std.proofs.Common.{arith, refl}
use Rattle.machine.specs.Machine.{session_answers}
use Rattle.replay.proofs.RingLemmas.{on_err, begins_below}
use Rattle.replay.proofs.DueLemmas.{none_added}
use Rattle.replay.specs.Ring.{start_step}
use Rattle.replay.proofs.StartLemmas.{start_within, start_reached}
use Rattle.machine.proofs.NoteLemmas.{none_looked}
use Rattle.replay.proofs.ValidLemmas.{each_now, stands_valid, Left, left}
use Rattle.replay.proofs.OutcomeLemmas.{match_err}
use Rattle.replay.proofs.rerun.run_again.Goals as goal

pub returns-in_err-from-clause-broken_off : goal.returns-in_err-from-clause-broken_off
returns-in_err-from-clause-broken_off c =
    let s = c.args.last_run.now.session in
    let start = start_reached (session_answers s) s.limit c.args.last_run.now.text.items c.args.checkpoints.now.ring.items c.requires.sound.valid in
    on_err c.from_residual.result _ (start_step s.limit c.args.checkpoints.now.ring.items, start.0, start.1, start_within s.limit c.args.checkpoints.now.ring.items, omega arith)

pub returns-in_err-cause-clause-broken_off : goal.returns-in_err-cause-clause-broken_off
returns-in_err-cause-clause-broken_off c =
    let ran = c.run_to_limit-steps.ensures in
    on_err c.from_residual-in_err-cause.result _ (c.run_to_limit-steps.result.0, c.run_to_limit-steps.new.state.state, ran.at, omega (arith, ran.within, c.limit.ensures.value), rw (← c.in_ok-from.ensures.step) ran.ticks)

pub run_to_limit-steps-requires-clause-begins : goal.run_to_limit-steps-requires-clause-begins
run_to_limit-steps-requires-clause-begins c = record {
  run = record {
    at = c.in_ok-from.ensures.at;
    bound = c.in_ok-from.ensures.bound;
    first = c.requires.sound.noted;
    noted = λ _. (
      begins_below c.in_ok-from.from c.args.checkpoints.now.notes.looks.seen c.args.checkpoints.now.ring.items c.in_ok-from.ensures.started c.requires.sound.below,
      none_looked c.args.checkpoints.now.notes.looks _ c.in_ok-from.ensures.looked,
    );
    seen_in = c.requires.sound.seen_in;
  };
  low = rw c.in_ok-from.ensures.step (start_within c.args.last_run.now.session.limit c.args.checkpoints.now.ring.items);
  started = c.in_ok-from.ensures.started;
  room = c.in_ok-from.ensures.room;
}

pub run_to_limit-steps-requires-clause-sound : goal.run_to_limit-steps-requires-clause-sound
run_to_limit-steps-requires-clause-sound c =
    each_now _ _ _ _ _ _ c.requires.sound (stands_valid (session_answers c.args.last_run.now.session) c.args.last_run.now.text.items c.args.checkpoints.now.ring.items c.requires.sound.valid)

failed : (c : goal.After-drop-kept-inside-in_err-cause) → Left (session_answers c.args.last_run.now.session) c.run_to_limit-steps.new.state.state c.save_end-kept.new.text.items c.run_to_limit-steps.new.checkpoints.ring.items
failed c =
    let ran = c.run_to_limit-steps.ensures in
    left (session_answers c.args.last_run.now.session) c.args.last_run.now.session.limit c.newest_step-newest.result c.in_ok-from.from c.limit.result c.run_to_limit-steps.new.state.state c.args.checkpoints.now.ring c.run_to_limit-steps.new.checkpoints.ring
    c.args.last_run.now.text.items c.begin.new.text.items c.save_end-kept.new.text.items
    c.requires.sound.valid c.newest_step-newest.ensures.there c.limit.ensures.value c.in_ok-from.ensures.step _ ran.at ran.within ran.leaves.upto ran.leaves.same ran.leaves.sound.valid
    _ c.text_use_of-text_use.ensures c.in_ok-from.ensures.copied c.save_end-kept.ensures.moved c.save_end-kept.ensures.copied

ended : (c : goal.Joined-last_run-2) → Left (session_answers c.args.last_run.now.session) c.run_to_limit-steps.new.state.state c.save_end-kept.new.text.items c.run_to_limit-steps.new.checkpoints.ring.items
ended c =
    let ran = c.run_to_limit-steps.ensures in
    left (session_answers c.args.last_run.now.session) c.args.last_run.now.session.limit c.newest_step-newest.result c.in_ok-from.from c.limit.result c.run_to_limit-steps.new.state.state c.args.checkpoints.now.ring c.run_to_limit-steps.new.checkpoints.ring
    c.args.last_run.now.text.items c.begin.new.text.items c.save_end-kept.new.text.items
    c.requires.sound.valid c.newest_step-newest.ensures.there c.limit.ensures.value c.in_ok-from.ensures.step _ ran.at ran.within ran.leaves.upto ran.leaves.same ran.leaves.sound.valid
    _ c.text_use_of-text_use.ensures c.in_ok-from.ensures.copied c.save_end-kept.ensures.moved c.save_end-kept.ensures.copied

pub returns-in_err-cause-clause-sound : goal.returns-in_err-cause-clause-sound
returns-in_err-cause-clause-sound c = each_now _ _ _ _ _ _ c.run_to_limit-steps.ensures.leaves.sound (failed c).stands

pub returns-clause-sound : goal.returns-clause-sound
returns-clause-sound c = each_now _ _ _ _ _ _ c.run_to_limit-steps.ensures.leaves.sound (ended c).stands

pub returns-clause-ended : goal.returns-clause-ended
returns-clause-ended c = (refl, rw c.save_end-kept.ensures.kept (ended c).fits)

pub returns-clause-cold : goal.returns-clause-cold
returns-clause-cold c = rw c.save_end-kept.ensures.kept (rw (ended c).begins (rw c.in_ok-cause.was at c.run_to_limit-steps.ensures.cold))

pub returns-in_err-from-clause-adds : goal.returns-in_err-from-clause-adds
returns-in_err-from-clause-adds c = match_err c.from_residual.result _ _ c.from_residual.ensures.0 (none_added _ _ _ _ _ _ c.in_err-from.ensures.room)

pub returns-in_err-cause-clause-adds : goal.returns-in_err-cause-clause-adds
returns-in_err-cause-clause-adds c =
    match_err c.from_residual-in_err-cause.result _ _ c.from_residual-in_err-cause.ensures.0
    (rw c.in_ok-from.ensures.step at (rw c.in_err-cause.was at c.run_to_limit-steps.ensures.adds))

pub returns-clause-adds : goal.returns-clause-adds
returns-clause-adds c = rw c.in_ok-from.ensures.step at (rw c.in_ok-cause.was at c.run_to_limit-steps.ensures.adds)
