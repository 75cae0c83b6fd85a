use Rattle.dependencies.proofs.DecideLemmas as lemmas
use Rattle.dependencies.proofs.laws.dependencies_decide.Goals as goal

pub returns : goal.returns
returns c = lemmas.dependencies_decide
