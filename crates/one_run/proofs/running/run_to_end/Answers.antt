use Rattle.std.proofs.Common.{◌≡◌, Some, ap}
use Rattle.machine.specs.Runs.{seen_by}
use Rattle.machine.specs.declared.noting.Noting.{Noting}
use Rattle.one_run.proofs.running.run_to_end.Goals as goal

pub returns-clause-looks : goal.returns-clause-looks
returns-clause-looks g c noting =
    let started : c.in-Ok.run'.seen ≡ Some c.in-Ok.run'.step = rw c.in-Ok.ensures (ap (λ (n : Noting). seen_by n 0) noting) in
    rw (c.write_run.ensures.session, c.in-Ok.ensures) at (c.ended.ensures.looks (c.in_ok-stop.ensures.noted started))
