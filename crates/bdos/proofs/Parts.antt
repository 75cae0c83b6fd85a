-- No look is lost.
pub use Rattle.hostfiles.proofs.LookLemmas.{extends_same, extends_trans}
pub use Rattle.i8080.proofs.WriteLookLemmas.{extends_itself}

-- The rules by which the looks before a call are among the looks after it.
pub ruleset still_looked_at = (extends_same, extends_itself)
