-- The states of a run, and the states and runs of one machine as seen on another. (This project's own.)
use Rattle.std.specs.Prelude.{ℕ, zero, suc, Option, Some, None}
use Rattle.interaction_trees.specs.Outcome.{Outcome, Step, Stop}
use Rattle.interaction_trees.specs.Run.{RunResult}

abbrev pub state_of : {St X : Type 0} → Outcome St X → Option St
state_of (Step st) = Some st
state_of (Stop x) = None

abbrev pub next_state : {St X : Type 0} → (St → Outcome St X) → Option St → Option St
next_state outcome None = None
next_state outcome (Some st) = state_of (outcome st)

-- The state after n steps, or none if the run stops earlier.
unfoldable pub after : {St X : Type 0} → (St → Outcome St X) → St → ℕ → Option St
after outcome start zero = Some start
after outcome start (suc n) = next_state outcome (after outcome start n)

abbrev pub map_outcome : {St Tt X : Type 0} → (St → Tt) → Outcome St X → Outcome Tt X
map_outcome h (Step st) = Step (h st)
map_outcome h (Stop x) = Stop x

abbrev pub map_run : {St Tt X : Type 0} → (St → Tt) → RunResult St X → RunResult Tt X
map_run h r = record { state = h r.state; steps = r.steps; cause = r.cause }
