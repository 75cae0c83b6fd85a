use Rattle.file_calls.proofs.Soundness.{starts_sound, stays_sound}
use Rattle.file_calls.proofs.laws.own_files_are_sound.Goals as goal

pub returns-clause-start : goal.returns-clause-start
returns-clause-start c = starts_sound

pub returns-clause-change : goal.returns-clause-change
returns-clause-change c = stays_sound
