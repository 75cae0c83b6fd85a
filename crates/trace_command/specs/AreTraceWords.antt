-- The words of the command line. (This project's own.)
use Rattle.std.specs.Prelude.{◌≡◌, ℕ, ◌≤◌, false, List, []}
use Rattle.command_words.specs.Clashes.{trace_clashes}
use Rattle.command_words.specs.TraceLine.{AreTraceWordsOf, trace_faults, trace_matches}
use Rattle.command_words.specs.declared.trace_words.TraceWords.{TraceWords}

-- The words are no usage error, and have these values.
pub record AreTraceWords (words : List (List ℕ)) (w : TraceWords) : Type 0 where
  pub fine : trace_faults words ≡ []
  pub says : AreTraceWordsOf (trace_matches words) w
  pub limit : w.session.limit ≤ 4000000000
  pub alone : trace_clashes w ≡ false
