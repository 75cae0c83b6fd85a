-- That the plain machine makes the same steps as the machine that separates what a run wrote from its session. (This project's own.)
use Rattle.std.specs.Prelude.{◌≡◌, ℕ, Option, Some, unwrap_or}
use Rattle.std.specs.Option.{option_map}
use Rattle.std.specs.FinMap as finmap
use Rattle.interaction_trees.specs.Run.{RunResult}
use Rattle.interaction_trees.specs.Steps.{map_outcome, map_run}
use Rattle.interaction_trees.specs.Steps as steps
use Rattle.console_calls.specs.declared.cause.Cause.{Cause}
use Rattle.hostfiles.specs.Files as files
use Rattle.machine.specs.Inputs.{Session}
use Rattle.machine.specs.StateView.{PartialState}
use Rattle.machine.specs.Session.{image_of, IsSession}
use Rattle.machine.specs.Machine.{session_answers, outcome, after, cold_run}
use Rattle.machine.specs.PlainState.{PlainState, memory_of, plain_outcome, loaded_machine, PlainRun, plain_run}

-- What a state wrote and did to the files, laid over its session.
abbrev pub laid_state : Session → PartialState → PlainState
laid_state s st = record {
  core = st.core;
  memory = memory_of (λ a. unwrap_or (finmap.get st.own.cells a) (image_of s a));
  files = files.files s.files st.own.files;
}

-- The plain machine after n steps; `None` if a stop comes before.
abbrev pub plain_after : Session → ℕ → Option PlainState
plain_after s n = steps.after (plain_outcome s) (loaded_machine s) n

-- The cold run, seen on the plain machine.
abbrev pub plain_run_of : Session → RunResult PartialState Cause → PlainRun
plain_run_of s r = map_run (laid_state s) r

-- The run of the plain machine is the cold run.
abbrev pub PlainRunIsCold : Type 0
PlainRunIsCold = (s : Session) → IsSession s → plain_run s ≡ plain_run_of s (cold_run s)

-- The plain machine makes the same steps. After each number of steps it has the same core, its memory is what was written laid
-- over the session, and its files are what was done laid over the host files; the same outcome follows; and so the runs are the
-- same.
pub record PlainMachineIsLaid : Type 0 where
  pub states : (s : Session) → IsSession s → (n : ℕ) → plain_after s n ≡ option_map (laid_state s) (after (session_answers s) n)
  pub outcomes : (s : Session) → IsSession s → (n : ℕ) (st : PartialState) → after (session_answers s) n ≡ Some st → plain_outcome s (laid_state s st) ≡ map_outcome (laid_state s) (outcome (session_answers s) st)
  pub runs : PlainRunIsCold
