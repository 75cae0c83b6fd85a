-- The words of the command line. (This project's own.)
use Rattle.std.specs.Prelude.{◌≡◌, ℕ, ◌≤◌, false, List, []}
use Rattle.command_words.specs.Clashes.{run_clashes}
use Rattle.command_words.specs.RunLine.{AreWordsOf, run_faults, run_matches}
use Rattle.command_words.specs.declared.words.Words.{Words}

-- The words are no usage error, and have these values.
pub record AreWords (words : List (List ℕ)) (w : Words) : Type 0 where
  pub fine : run_faults words ≡ []
  pub says : AreWordsOf (run_matches words) w
  pub limit : w.limit ≤ 4000000000
  pub spacing : (1 ≤ w.spacing) × (w.spacing ≤ 1000000000)
  pub slots : (1 ≤ w.slots) × (w.slots ≤ 4096)
  pub alone : run_clashes w ≡ false
