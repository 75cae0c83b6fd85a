-- A runner as contracts see it. (This project's own.)
use Rattle.std.specs.Prelude.{◌≡◌, ℕ, ◌+◌, ◌<◌, ◌≤◌, List, [], ◌++◌, Option, Some, None, drop, map, take}
use Rattle.machine.specs.declared.session.TheConstants.{STEP_LIMIT}
use Rattle.machine.specs.Inputs.{Session}
use Rattle.machine.specs.StateView.{PartialState}
use Rattle.machine.specs.Machine.{Answers, session_answers, after}
use Rattle.machine.specs.SavedState.{state_with_text}
use Rattle.replay.specs.declared.ring.Checkpoint.{Checkpoint as KeptCheckpoint}
use Rattle.replay.specs.declared.ring.Checkpoints.{Checkpoints}
use Rattle.replay.specs.declared.options.Options.{Options}
use Rattle.machine.specs.FirstLooks.{IsFirstLooks}
use Rattle.replay.specs.Ring.{Each, Rising, RisingBy, IsValidFor, AddsBy, AddsEachBy, start_by}
use Rattle.replay.specs.Touch.{Untouched}

-- A step that a run reached, and the state there.
pub record Checkpoint : Type 0 where
  pub step : ℕ
  pub state : PartialState

-- A session, options, checkpoints, the oldest first, and the last due step of the last rerun at which a checkpoint was left out.
pub record RunnerView : Type 0 where
  pub session : Session
  pub spacing : ℕ
  pub slots : ℕ
  pub checkpoints : List Checkpoint
  pub left_out : Option ℕ

-- A runner for a session, with no checkpoint yet.
abbrev pub with_no_checkpoint : Session → Options → RunnerView
with_no_checkpoint s options = record { session = s; spacing = options.spacing; slots = options.slots; checkpoints = []; left_out = None }

-- The options stay the same.
pub record SameOptions (old new : RunnerView) : Type 0 where
  pub spacing : new.spacing ≡ old.spacing
  pub slots : new.slots ≡ old.slots

-- A checkpoint with its text, which is a prefix of the given one.
abbrev pub checkpoint_with_text : List ℕ → KeptCheckpoint → Checkpoint
checkpoint_with_text text c = record { step = c.step; state = state_with_text c.state (take c.state.length text) }

-- The steps of the checkpoints.
abbrev pub kept_steps : RunnerView → List ℕ
kept_steps r = map (λ c. c.step) r.checkpoints

-- The checkpoint is the state of the session after its step, which is not 0.
pub record IsStateAfterStep (f : Answers) (c : Checkpoint) : Type 0 where
  pub later : 1 ≤ c.step
  pub state : after f c.step ≡ Some c.state

abbrev pub AllStand : RunnerView → Type 0
AllStand r = Each (IsStateAfterStep (session_answers r.session)) r.checkpoints

-- Exactly the checkpoints up to the touch are left, in order, or all if there is no touch.
pub record KeepsUntouched (f g : Answers) (old new : List Checkpoint) : Type 0 where
  pub gone : List Checkpoint
  pub parts : old ≡ new ++ gone
  pub untouched : Each (λ c. Untouched f g c.step) new
  pub touched : Each (λ c. Untouched f g c.step → ⊥) gone

-- The `count` oldest checkpoints are gone, and all else stays.
abbrev pub DropsOldest : ℕ → RunnerView → RunnerView → Type 0
DropsOldest count old new = new ≡ record old { checkpoints = drop count old.checkpoints }

-- The step from which a rerun begins.
abbrev pub rerun_start : RunnerView → ℕ
rerun_start r = start_by (λ c. c.step) r.session.limit r.checkpoints

-- The checkpoints after a rerun that was to reach this step: the new steps are the last of the old ones followed by some due steps,
-- and they rise.
abbrev pub AddsDueTo : RunnerView → RunnerView → ℕ → Type 0
AddsDueTo old new upto =
    AddsBy (λ k. k) (kept_steps old) (kept_steps new) old.slots (rerun_start old) upto upto old.spacing new.left_out
    × RisingBy (λ k. k) (kept_steps new)

-- The same after a rerun that reached this step, and each due step after the last one that was left out is there.
abbrev pub AddsEachDueTo : RunnerView → RunnerView → ℕ → Type 0
AddsEachDueTo old new steps =
    AddsEachBy (λ k. k) (kept_steps old) (kept_steps new) old.slots (rerun_start old) steps steps old.spacing new.left_out
    × RisingBy (λ k. k) (kept_steps new)

-- The meter counts the steps of a run from this step on, up to some step that it reaches within the limit, and no others.
abbrev pub TicksTo : Answers → ℕ → ℕ → ℕ → ℕ → Type 0
TicksTo f limit from ticks ticked = (n : ℕ) × (st : PartialState) × (after f n ≡ Some st) × (n ≤ limit) × (ticked + from ≡ ticks + n)

-- The checkpoints and the first looks belong to a session, and P holds for each checkpoint.
pub record AreCheckpoints (P : KeptCheckpoint → Type 0) (f : Answers) (checkpoints : Checkpoints) : Type 0 where
  pub valid : Each P checkpoints.ring.items
  pub rising : Rising checkpoints.ring.items
  pub below : Each (λ c. c.step ≤ checkpoints.notes.looks.seen) checkpoints.ring.items
  pub noted : IsFirstLooks f checkpoints.notes.looks
  pub spacing_in : (0 < checkpoints.spacing) × (checkpoints.spacing ≤ 1000000000)
  pub seen_in : checkpoints.notes.looks.seen ≤ STEP_LIMIT

-- What always holds for the parts of a runner: each checkpoint is the state of the session after its step, with a prefix of this
-- text.
abbrev pub IsSoundRunner : Session → List ℕ → Checkpoints → Type 0
IsSoundRunner s text checkpoints = AreCheckpoints (IsValidFor (session_answers s) text) (session_answers s) checkpoints
