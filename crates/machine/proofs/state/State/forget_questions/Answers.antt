use Rattle.machine.proofs.HostLemmas.{nothing_asked}
use Rattle.machine.proofs.state.State.forget_questions.Goals as goal

pub returns-clause-none : goal.returns-clause-none
returns-clause-none c = record { offsets = c.forget_looks.ensures.looks; files = λ a. nothing_asked _ a c.clear.ensures }
