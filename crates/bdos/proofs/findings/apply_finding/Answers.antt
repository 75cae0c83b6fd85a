use Rattle.std.proofs.Common.{inl}
use Rattle.bdos.proofs.Chains.{found_as}
use Rattle.bdos.proofs.Needs.{at_err, stores}
use Rattle.bdos.proofs.findings.apply_finding.Goals as goal

pub returns-in-Write-clause-makes : goal.returns-in-Write-clause-makes
returns-in-Write-clause-makes g c script = found_as script _ _ c.in-Write.is (c.store.ensures script)

pub returns-in-Make-clause-makes : goal.returns-in-Make-clause-makes
returns-in-Make-clause-makes g c script = found_as script _ _ c.in-Make.is (c.make.ensures script)

pub returns-in-Length-clause-makes : goal.returns-in-Length-clause-makes
returns-in-Length-clause-makes g c script = found_as script _ _ c.in-Length.is (c.return_place.ensures.makes script _)

pub returns-in-NoLength-clause-makes : goal.returns-in-NoLength-clause-makes
returns-in-NoLength-clause-makes g c script = found_as script _ _ c.in-NoLength.is (c.return_place-in-NoLength.ensures.makes script _)

pub returns-in-RandomPlace-clause-makes : goal.returns-in-RandomPlace-clause-makes
returns-in-RandomPlace-clause-makes g c script = found_as script _ _ c.in-RandomPlace.is (c.return_place-in-RandomPlace.ensures.makes script _)

pub returns-in-Write-clause-needs : goal.returns-in-Write-clause-needs
returns-in-Write-clause-needs g c f = at_err c.store.result (inl (rw c.in-Write.is (stores f c.in-Write.write c.args.regs.now c.args.desk.now.desk.spot c.args.to)))
