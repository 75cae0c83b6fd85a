-- How a run resumes from a kept step, and how it leaves the checkpoints. (This project's own.)
use Rattle.std.specs.Prelude.{◌≡◌, ℕ, ◌<◌, ◌≤◌, ◌⊎◌, Option, length, max}
use Rattle.std.specs.Option.{option_map}
use Rattle.machine.specs.Inputs.{Session}
use Rattle.machine.specs.StateView.{StateView}
use Rattle.machine.specs.Machine.{Answers, session_answers}
use Rattle.machine.specs.Runs.{IsAt}
use Rattle.replay.specs.declared.ring.Checkpoints.{Checkpoints}
use Rattle.replay.specs.RunnerView.{AreCheckpoints}
use Rattle.replay.specs.Ring.{Each, IsValid, SomeStep, Adds, AddsEach, start_step}

-- The step from which a rerun of a session begins.
abbrev pub resume_step : Session → Checkpoints → ℕ
resume_step s checkpoints = start_step s.limit checkpoints.ring.items

-- A run of a session resumes here from a kept step or from the start, and the checkpoints fit their slots.
pub record IsResumePoint (s : Session) (checkpoints : Checkpoints) (from : ℕ) (state : StateView) : Type 0 where
  pub run : IsAt s from state checkpoints.notes
  pub low : from ≤ s.limit
  pub started : (from ≡ 0) ⊎ SomeStep checkpoints.ring.items from
  pub room : length checkpoints.ring.items ≤ checkpoints.ring.capacity

-- Each checkpoint is the state of the session after its step, with some text.
abbrev pub AreCheckpointsOf : Answers → Checkpoints → Type 0
AreCheckpointsOf f checkpoints = AreCheckpoints (IsValid f) f checkpoints

-- What a run to this step leaves: checkpoints of the session, none past it and the newest one before; and the same ones if that is past the
-- limit.
pub record LeavesCheckpoints (s : Session) (newest n : ℕ) (old new : Checkpoints) : Type 0 where
  pub sound : AreCheckpointsOf (session_answers s) new
  pub upto : Each (λ c. c.step ≤ max newest n) new.ring.items
  pub same : s.limit < newest → new.ring ≡ old.ring
  pub capacity : new.ring.capacity ≡ old.ring.capacity
  pub spacing : new.spacing ≡ old.spacing

-- The last due step at which a checkpoint was left out.
abbrev pub left_out_step : Checkpoints → Option ℕ
left_out_step checkpoints = option_map (λ l. l.step) checkpoints.left_out

-- A run from one step, which was to reach another, added checkpoints at due steps alone.
abbrev pub AddsDue : Checkpoints → Checkpoints → ℕ → ℕ → Type 0
AddsDue old new from upto = Adds old.ring.items new.ring.items old.ring.capacity from upto upto old.spacing (left_out_step new)

-- A run from one step, which reached another, added one at each due step after the last one that it left out.
abbrev pub AddsEachDue : Checkpoints → Checkpoints → ℕ → ℕ → Type 0
AddsEachDue old new from steps = AddsEach old.ring.items new.ring.items old.ring.capacity from steps steps old.spacing (left_out_step new)
