use Rattle.machine.proofs.HostLemmas.{nothing_asked}
use Rattle.machine.proofs.saved_state.SavedState.resume.Goals as goal

pub returns-clause-looked : goal.returns-clause-looked
returns-clause-looked c = record {
  cells = c.requires.looks;
  questions = record { offsets = c.from_parts.ensures.looks; files = λ a. nothing_asked c.args.changes.looks a c.requires.asks };
}
