use Rattle.machine.specs.Machine.{session_answers}
use Rattle.replay.specs.Edits.{with_poke}
use Rattle.replay.proofs.LeastLemmas.{IsLeast}
use Rattle.replay.proofs.PokeLemmas.{IsPoked}
use Rattle.replay.proofs.touch.poke_touch.Given as goal

abbrev pub invariant-loop-i : goal.invariant-loop-i
invariant-loop-i l = IsLeast (IsPoked l.at l.i) (session_answers l.session) (session_answers (with_poke l.session l.at l.bytes)) l.looks l.touch
