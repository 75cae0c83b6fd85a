-- The words of the command line. (This project's own.)
use Rattle.std.specs.Prelude.{◌≡◌, ℕ, ◌≤◌, false, List, []}
use Rattle.command_words.specs.Clashes.{dependency_clashes}
use Rattle.command_words.specs.DependencyLine.{AreDependencyWordsOf, dependency_faults, dependency_matches}
use Rattle.command_words.specs.declared.words.DependencyWords.{DependencyWords}

-- The words are no usage error, and have these values.
pub record AreDependencyWords (words : List (List ℕ)) (w : DependencyWords) : Type 0 where
  pub fine : dependency_faults words ≡ []
  pub says : AreDependencyWordsOf (dependency_matches words) w
  pub limit : w.session.limit ≤ 4000000000
  pub alone : dependency_clashes w ≡ false
