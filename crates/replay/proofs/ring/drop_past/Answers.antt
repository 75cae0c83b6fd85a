use Rattle.std.proofs.Common.{◌∙◌, ◌∷◌, sym, refl}
use Rattle.replay.proofs.RingLemmas.{kept_up_to, popped, none_last}
use Rattle.replay.proofs.ring.drop_past.Goals as goal

pub returns-then-checkpoint-touch-clause-parts : goal.returns-then-checkpoint-touch-clause-parts
returns-then-checkpoint-touch-clause-parts c =
    let i = c.loop-checkpoint.invariant in
    kept_up_to _ _ i.gone _ _ i.parts i.rising (sym c.in-Some.ensures) c.if-checkpoint-touch.true i.past

pub loop-checkpoint-preserved-else-checkpoint-touch : goal.loop-checkpoint-preserved-else-checkpoint-touch
loop-checkpoint-preserved-else-checkpoint-touch c =
    let i = c.loop-checkpoint.invariant in
    let last = c.in-Some.checkpoint.now in
    let p = popped c.loop-checkpoint.ring.items c.pop_back.new.self.items i.gone last c.args.touch (sym c.in-Some.ensures) (rw c.pop_back.ensures.items refl) c.if-checkpoint-touch.false i.past i.rising in
    record {
      gone = last ∷ i.gone;
      parts = i.parts ∙ p.0;
      past = (c.if-checkpoint-touch.false, i.past);
      rising = p.1;
      capacity = rw c.pop_back.ensures.items i.capacity;
    }

pub returns-clause-parts : goal.returns-clause-parts
returns-clause-parts c =
    let i = c.loop-checkpoint.invariant in
    record { gone = i.gone; parts = i.parts; left = none_last _ _ (sym c.in_default.ensures); past = i.past }
