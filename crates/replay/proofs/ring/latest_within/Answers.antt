use Rattle.std.proofs.Common.{◌≡◌, ◌-◌, ◌<◌, suc, drop, sym, arith}
use Rattle.replay.specs.Ring.{Each}
use Rattle.replay.proofs.StartLemmas.{found, has_there, past_here, none_within, none_get}
use Rattle.replay.proofs.ring.latest_within.Goals as goal
use Rattle.replay.proofs.ring.latest_within.Goals.{in-Some+else-checkpoint-limit, in_default}

pub returns-then-checkpoint-limit-clause-some : goal.returns-then-checkpoint-limit-clause-some
returns-then-checkpoint-limit-clause-some c =
    let e : suc (c.loop-left.left - 1) ≡ c.loop-left.left = omega arith in (
      sym (found c.args.limit c.args.ring.now.items (c.loop-left.left - 1) c.in-Some.checkpoint.now c.requires (sym c.in-Some.ensures) c.if-checkpoint-limit.true (rw e c.loop-left.invariant.past)),
      has_there _ _ c.in-Some.checkpoint.now (sym c.in-Some.ensures),
    )

pub loop-left-preserved : goal.loop-left-preserved
loop-left-preserved c =
    let e : suc (c.loop-left.left - 1) ≡ c.loop-left.left = omega arith in
    let past : Each (λ d. c.args.limit < d.step) (drop (suc (c.loop-left.left - 1)) c.args.ring.now.items) = rw e c.loop-left.invariant.past in
    record {
      short = omega arith;
      past = elim c.match-get.branch [
        | in-Some+else-checkpoint-limit w ↦ past_here c.args.ring.now.items (c.loop-left.left - 1) w.in-Some.checkpoint.now _ (sym w.in-Some.ensures) w.if-checkpoint-limit.false past
        | in_default w ↦ absurd (omega (arith, none_get c.args.ring.now.items (c.loop-left.left - 1) (sym w.in_default.ensures)))
      ];
    }

pub returns-clause-none : goal.returns-clause-none
returns-clause-none c =
    let e : c.loop-left.left ≡ 0 = omega arith in
    none_within _ _ (rw e at c.loop-left.invariant.past)
