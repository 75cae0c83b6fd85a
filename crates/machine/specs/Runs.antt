-- A run in progress, and a whole run. (This project's own.)
use Rattle.std.specs.Prelude.{◌≡◌, ℕ, ◌+◌, ◌<◌, ◌≤◌, Option, Some, None, false, unwrap_or}
use Rattle.interaction_trees.specs.Outcome.{Step, Stop}
use Rattle.console_calls.specs.declared.cause.Cause.{Cause}
use Rattle.first_looks.specs.FirstLooks.{FirstLooksView}
use Rattle.machine.specs.declared.noting.Noting.{Noting}
use Rattle.machine.specs.declared.noting.Noting.TheVariants.{Failed, Looks, Nothing}
use Rattle.machine.specs.declared.noting.RunNotes.{RunNotes}
use Rattle.machine.specs.declared.session.TheConstants.{STEP_LIMIT}
use Rattle.machine.specs.Bound.{IsBound}
use Rattle.machine.specs.Inputs.{Session}
use Rattle.machine.specs.StateView.{PartialState, StateView}
use Rattle.machine.specs.Machine.{Answers, session_answers, after, outcome}
use Rattle.machine.specs.FirstLooks.{AllNoted, IsFirstLooks, asking_steps}
use Rattle.machine.specs.PlainLaid.{plain_after}
use Rattle.machine.specs.PlainState.{PlainState, loaded_machine, plain_outcome}
use Rattle.machine.specs.Session.{IsSession}
use Rattle.machine.specs.Step.{is_call}

-- A run of a session: its number of steps, and the step below which its looks are noted, or `None` if they are not.
pub record RunView : Type 0 where
  pub session : Session
  pub step : ℕ
  pub seen : Option ℕ

-- The step below which looks are noted, if they are.
abbrev pub seen_by : Noting → ℕ → Option ℕ
seen_by Nothing seen = None
seen_by Looks seen = Some seen
seen_by (Failed error) seen = None

-- The state of the plain machine at the step of a run. A run always has one (`Run::step`, clause `at`), so that the loaded state in the place
-- of none is never met.
abbrev pub state_of : RunView → PlainState
state_of r = unwrap_or (plain_after r.session r.step) (loaded_machine r.session)

-- A stop follows there.
abbrev pub StopsHere : RunView → Cause → Type 0
StopsHere r cause = plain_outcome r.session (state_of r) ≡ Stop cause

-- One step led from a run to another; or a stop follows it, and the step is the same.
abbrev pub Leads : RunView → RunView → Option Cause → Type 0
Leads old new None = (new.step ≡ old.step + 1) × (plain_outcome old.session (state_of old) ≡ Step (state_of new))
Leads old new (Some cause) = (new.step ≡ old.step) × (plain_outcome old.session (state_of old) ≡ Stop cause)

-- No step of a session from `from` on and below `upto` is a call.
abbrev pub MakesNoCall : Session → ℕ → ℕ → Type 0
MakesNoCall s from upto = (i : ℕ) (w : PlainState) → from ≤ i → i < upto → plain_after s i ≡ Some w → is_call w.core ≡ false

-- A session is in this state after this step. The notes are first looks of the session; if the run notes its looks, all that was looked at
-- is noted, and so are all steps below this one.
pub record IsAt (s : Session) (step : ℕ) (state : StateView) (notes : RunNotes) : Type 0 where
  pub at : after (session_answers s) step ≡ Some state.state
  pub bound : IsBound s state
  pub first : IsFirstLooks (session_answers s) notes.looks
  pub seen_in : notes.looks.seen ≤ STEP_LIMIT
  pub noted : notes.noting ≡ Looks → (step ≤ notes.looks.seen) × AllNoted notes.looks state.looked

-- The parts of a run belong together.
pub record IsRun (s : Session) (step : ℕ) (state : StateView) (notes : RunNotes) : Type 0 where
  pub session : IsSession s
  pub within : step ≤ STEP_LIMIT
  pub run : IsAt s step state notes

-- A run notes its looks, or did until an allocation failed.
abbrev pub IsNoting : Noting → Type 0
IsNoting Nothing = ⊥
IsNoting Looks = Unit {0}
IsNoting (Failed error) = Unit {0}

-- No note of a step that was seen is lost, and only a failed allocation ends the noting.
pub record KeepsNotes (old new : RunNotes) : Type 0 where
  pub grows : old.looks.seen ≤ new.looks.seen
  pub on : IsNoting old.noting → IsNoting new.noting
  pub was : new.noting ≡ Looks → old.noting ≡ Looks

-- A run went on, at most to this step.
pub record GoesOn (old new : RunView) (end : ℕ) : Type 0 where
  pub session : new.session ≡ old.session
  pub low : old.step ≤ new.step
  pub high : new.step ≤ end

-- A stop comes after this many steps, which are fewer than `end`.
abbrev pub StopsBelow : Answers → ℕ → ℕ → Cause → Type 0
StopsBelow f end n cause = (n < end) × (st : PartialState) × (after f n ≡ Some st) × (outcome f st ≡ Stop cause)

-- A run ended at this step, or at a stop before it.
abbrev pub EndsBy : RunView → ℕ → Option Cause → Type 0
EndsBy r end None = r.step ≡ end
EndsBy r end (Some cause) = StopsBelow (session_answers r.session) end r.step cause

-- How many steps asked when a run came to this step. A stop asks as the step after the last one.
abbrev pub asked_by : ℕ → Option Cause → ℕ
asked_by step None = step
asked_by step (Some cause) = step + 1

-- The table has the first looks of a whole run.
abbrev pub NotesWholeRun : Session → FirstLooksView → ℕ → Type 0
NotesWholeRun s t steps = IsFirstLooks (session_answers s) t × (t.seen ≡ asking_steps steps s.limit)
