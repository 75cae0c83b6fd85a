-- The run of a machine, which is given by the outcome at each of its states. (This project's own.)
use Rattle.std.specs.Prelude.{ℕ, zero, suc}
use Rattle.interaction_trees.specs.Outcome.{Outcome, Step, Stop}

-- The last state of a run, its number of steps and why it ended.
pub record RunResult (St X : Type 0) : Type 0 where
  pub state : St
  pub steps : ℕ
  pub cause : X

-- At most k more steps from the state after n steps. The limit is checked before every other stop.
abbrev pub run_on : {St X : Type 0} → (St → Outcome St X) → X → ℕ → ℕ → St → RunResult St X
run_on outcome limit zero n st = record { state = st; steps = n; cause = limit }
run_on outcome limit (suc k) n st = elim (outcome st) [ Step next ↦ run_on outcome limit k (suc n) next | Stop cause ↦ record { state = st; steps = n; cause = cause } ]

-- The run of at most this number of steps, with the cause `limit` if it does not stop earlier.
unfoldable pub run_to_limit : {St X : Type 0} → (St → Outcome St X) → X → ℕ → St → RunResult St X
run_to_limit outcome limit steps start = run_on outcome limit steps 0 start
