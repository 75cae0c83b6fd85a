use Rattle.std.proofs.Common.{sym, inl, inr, refl}
use Rattle.replay.proofs.StartLemmas.{has_there, has_step}
use Rattle.replay.proofs.RingLemmas.{last_greatest, none_last}
use Rattle.replay.proofs.ring.newest_step.Goals as goal

pub returns-in-Some : goal.returns-in-Some
returns-in-Some c = record {
  greatest = last_greatest c.args.ring.now.items c.in-Some.checkpoint.now c.requires (sym c.in-Some.ensures);
  there = inr (has_step c.args.ring.now.items c.in-Some.checkpoint.now (has_there _ _ c.in-Some.checkpoint.now (sym c.in-Some.ensures)));
}

pub returns-in-None : goal.returns-in-None
returns-in-None c = record { greatest = none_last _ c.args.ring.now.items (sym c.in-None.ensures); there = inl refl }
