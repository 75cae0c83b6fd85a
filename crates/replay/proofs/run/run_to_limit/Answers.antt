use Rattle.std.proofs.Common.{inl, inr, arith, refl, ◌≡◌, ap}
use Rattle.std.specs.Option.{option_map}
use Rattle.machine.proofs.ColdLemmas.{cold_stop, cold_limit}
use Rattle.replay.proofs.DueLemmas.{continued, none_made, relast, widen}
use Rattle.replay.proofs.RingLemmas.{Each-weaken}
use Rattle.replay.proofs.ValidLemmas.{left_on, noted_on}
use Rattle.replay.proofs.run.run_to_limit.Goals as goal
use Rattle.replay.proofs.run.run_to_limit.Goals.{in-Ok-made, in-Err-made}

pub loop-n-init : goal.loop-n-init
loop-n-init c = record {
  run = c.requires.begins.run;
  on = rw c.requires.anew.0 tt;
  within = (omega arith, rw c.limit-limit.ensures.value c.requires.begins.low);
  meter = refl;
  adds = rw c.requires.anew.1 (none_made _ _ _ _ _ c.requires.begins.room);
  spot = inl refl;
  leaves = record {
    sound = c.requires.sound;
    upto = Each-weaken _ _ _ (λ d h. omega (arith, h)) c.requires.newest.greatest;
    same = λ h. refl;
    capacity = refl;
    spacing = refl;
  };
}

pub returns-in-Err-clause-adds : goal.returns-in-Err-clause-adds
returns-in-Err-clause-adds c =
    let i = c.loop-n.invariant in
    rw (← c.limit-limit.ensures.value) (widen _ _ _ _ _ _ _ _ _ i.within.1 i.adds.adds)

pub returns-in-Err-clause-leaves : goal.returns-in-Err-clause-leaves
returns-in-Err-clause-leaves c =
    let l = c.loop-n.invariant.leaves in
    let did = c.run_and_note.ensures in
    record {
      sound = noted_on _ c.loop-n.checkpoints _ l.sound did.run.first (did.notes.grows, did.run.seen_in);
      upto = Each-weaken _ _ _ (λ d h. omega (arith, h, did.runs.within)) l.upto;
      same = l.same;
      capacity = l.capacity;
      spacing = l.spacing;
    }

pub returns-in-Some-clause-cold : goal.returns-in-Some-clause-cold
returns-in-Some-clause-cold c =
    let stopped = rw (c.in-Ok.is, c.in-Some.is) at c.run_and_note.ensures.runs.stopped in
    rw c.push_checkpoint-made.ensures.state (cold_stop _ _ _ _ c.run_and_note.ensures.runs.at (omega (arith, stopped.0, c.due_after-end.ensures.later, c.limit-limit.ensures.value)) stopped.1)

pub returns-in-Some-clause-adds : goal.returns-in-Some-clause-adds
returns-in-Some-clause-adds c =
    let i = c.loop-n.invariant in
    let within = c.run_and_note.ensures.runs.within in
    let ring = rw c.max-tried.ensures at c.push_checkpoint-made.ensures.ring in
    continued _ _ _ _ _ _ _ _ _ _ _ c.requires.newest i.within.0 within.0 (omega arith) (inr refl)
    (λ k a b. c.due_after-end.ensures.first k a (omega (arith, b, within.1)))
    (relast _ _ _ _ _ _ _ _ _ c.loop-n-test.true within.0 i.spot i.adds) _ i.leaves.capacity ring (elim c.match-made.branch [
      | in-Ok-made w ↦ inl (ap (option_map (λ l. l.step)) w.checkpoints-is, rw (c.max-tried.ensures, w.in-Ok-made.is) at c.push_checkpoint-made.ensures.made)
      | in-Err-made w ↦
          let left = rw (c.max-tried.ensures, w.in-Err-made.is) at c.push_checkpoint-made.ensures.left_out in
          inr (ap (option_map (λ l. l.step)) w.checkpoints-is, left.0, left.1)
    ])

pub returns-in-Some-clause-leaves : goal.returns-in-Some-clause-leaves
returns-in-Some-clause-leaves c =
    let i = c.loop-n.invariant in
    let did = c.run_and_note.ensures in
    let pushed = c.push_checkpoint-made.ensures in
    left_on _ _ _ _ _ _ _ c.run_and_note.new.notes _ _ _ i.leaves did.run.first (did.notes.grows, did.run.seen_in) did.runs.at did.runs.within.0 (omega (arith, did.runs.within, c.due_after-end.ensures.later, c.limit-limit.ensures.value))
    (rw c.max-tried.ensures at pushed.ring) pushed.noted (λ ok. (did.run.noted (c.noted-noted.ensures.noted ok)).0)

pub loop-n-preserved : goal.loop-n-preserved
loop-n-preserved c =
    let i = c.loop-n.invariant in
    let did = c.run_and_note.ensures in
    let ended = rw (c.in-Ok.is, c.in_default.is) at did.runs.ended in
    let marked = rw (← ended) at c.due_after-end.ensures.marked in
    let within = did.runs.within in
    let later = c.due_after-end.ensures.later in
    let pushed = c.push_checkpoint-made.ensures in
    let ring = rw c.max-tried.ensures at pushed.ring in
    record {
      run = rw pushed.state did.run;
      on = did.notes.on i.on;
      within = (omega (arith, within, i.within), omega (arith, within, later));
      meter = omega (arith, did.ticks, i.meter);
      leaves = left_on _ _ _ _ _ _ _ c.run_and_note.new.notes _ _ _ i.leaves did.run.first (did.notes.grows, did.run.seen_in) did.runs.at within.0 (omega (arith, within, later, c.limit-limit.ensures.value)) ring
          pushed.noted (λ ok. (did.run.noted (c.noted-noted.ensures.noted ok)).0);
      adds = continued _ _ _ _ _ _ _ _ _ _ _ c.requires.newest i.within.0 within.0 (omega (arith, within, later)) marked
          (λ k a b. c.due_after-end.ensures.first k a (omega (arith, b, within.1))) i.adds _ i.leaves.capacity ring (elim c.match-made.branch [
            | in-Ok-made w ↦ inl (ap (option_map (λ l. l.step)) w.checkpoints-is, rw (c.max-tried.ensures, w.in-Ok-made.is) at pushed.made)
            | in-Err-made w ↦
                let left = rw (c.max-tried.ensures, w.in-Err-made.is) at pushed.left_out in
                inr (ap (option_map (λ l. l.step)) w.checkpoints-is, left.0, left.1)
          ]);
      spot = inr marked;
    }

pub returns-clause-cold : goal.returns-clause-cold
returns-clause-cold c = cold_limit _ _ _ c.loop-n.invariant.run.at (omega arith)

pub returns-clause-adds : goal.returns-clause-adds
returns-clause-adds c =
    let i = c.loop-n.invariant in
    let here : c.limit-limit.result ≡ c.loop-n.n = omega arith in
    rw here at i.adds
