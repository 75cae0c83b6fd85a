-- How the program ends, and how many steps its runs executed. (This project's own.)
use Rattle.std.specs.Prelude.{◌≡◌, ℕ, List, Option, IfSome}
use Rattle.command_words.specs.declared.words.Words.{Words}
use Rattle.replay.specs.RunnerView.{RunnerView, with_no_checkpoint}
use Rattle.replay.specs.declared.options.Options.{Options}
use Rattle.edit_lines.specs.Effects.{Effects}
use Rattle.edit_lines.specs.Pieces.{lines_of}
use Rattle.edit_lines.specs.Replay.{Finished, Replays}
use Rattle.requests.specs.Programs.{Program}
use Rattle.cpmrun.specs.Ends.{Replay, program_with}
use Rattle.streams.specs.Streams.{Output, WritesWhole}

-- The options for checkpoints in the words.
abbrev pub options_of : Words → Options
options_of w = record { spacing = w.spacing; slots = w.slots }

-- The replay of the edit lines by this runner, to their end, wrote its text and executed `steps` steps. If a reader reports its
-- bytes, these are the lines.
pub record WritesReplayBy (source : Option (List ℕ)) (first : RunnerView) (before after : Output) (steps : ℕ) : Type 0 where
  pub last : RunnerView
  pub bytes : List ℕ
  pub text : List ℕ
  pub count : ℕ
  pub whole : IfSome source (λ all. all ≡ bytes)
  pub written : WritesWhole before after text
  pub replayed : Replays first.session (lines_of bytes) text last.session (Finished count)
  pub effects : Effects first 0 (lines_of bytes) last steps

-- `cpmrun`, whose replays execute this many steps by runners with the options of the words.
abbrev pub by_runner : ℕ → Replay
by_runner steps w s source before after = WritesReplayBy source (with_no_checkpoint s (options_of w)) before after steps

abbrev pub metered : ℕ → Program Words
metered steps = program_with (by_runner steps)
