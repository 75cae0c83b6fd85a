use Rattle.machine.specs.Machine.{session_answers}
use Rattle.replay.specs.Edits.{with_splice}
use Rattle.replay.proofs.LeastLemmas.{IsLeast}
use Rattle.replay.proofs.SpliceLemmas.{IsPlace}
use Rattle.replay.proofs.touch.splice_touch.Given as goal

abbrev pub invariant-loop-place : goal.invariant-loop-place
invariant-loop-place l = IsLeast (IsPlace l.at l.place) (session_answers l.session) (session_answers (with_splice l.session l.at l.removed l.bytes)) l.looks l.touch
