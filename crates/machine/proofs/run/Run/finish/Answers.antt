use Rattle.machine.proofs.run.Run.finish.Goals as goal

pub returns-clause-looks : goal.returns-clause-looks
returns-clause-looks c started = rw c.in_ok-stop.ensures.goes.session at (c.ended.ensures.looks (c.in_ok-stop.ensures.noted started))
