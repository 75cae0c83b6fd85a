-- The state that a run left. (This project's own.)
use Rattle.std.specs.Prelude.{ℕ, List, Option, Some, None, take}
use Rattle.machine.specs.StateView.{PartialState}
use Rattle.machine.specs.SavedState.{SavedState, state_with_text}
use Rattle.machine.specs.Machine.{start}
use Rattle.replay.specs.declared.report.LastRun.{LastRun}

-- The kept state with the prefix of the text that belongs to it, or the start if no state is kept.
abbrev pub last_state : Option SavedState → List ℕ → PartialState
last_state None text = start
last_state (Some kept) text = state_with_text kept (take kept.length text)

abbrev pub state_left_by : LastRun → PartialState
state_left_by s = last_state s.end s.text.items
