use Rattle.hostfiles.proofs.LookLemmas.{nothing_looked, same_looks}
use Rattle.hostfiles.proofs.looks.FileLooks.take.Goals as goal

pub returns-clause-none : goal.returns-clause-none
returns-clause-none c = (
  same_looks c.args.self.now _ c.in_default.ensures.none.0 c.in_default-pop.ensures.none.0 c.in_default-pop-2.ensures.none.0 c.in_default-pop-3.ensures.none.0,
  nothing_looked c.args.self.now c.in_default.ensures.none.1 c.in_default-pop.ensures.none.1 c.in_default-pop-2.ensures.none.1 c.in_default-pop-3.ensures.none.1,
)
