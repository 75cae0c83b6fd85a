use Rattle.std.proofs.Common.{◌≡◌, take}
use Rattle.streams.specs.Pushing.{more}
use Rattle.faults.specs.Faults.{joined, shown}
use Rattle.faults.proofs.message.push_shown_pieces.Given as goal

abbrev pub invariant-loop-piece : goal.invariant-loop-piece
invariant-loop-piece g l = g.X.Text.pushed l.text ≡ more (g.X.Text.pushed l.fn.text) (shown (joined (take l.piece-index l.pieces)))
