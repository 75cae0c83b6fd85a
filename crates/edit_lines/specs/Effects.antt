-- What the lines of an edit text do, one after the other, to a runner and its checkpoints and to the meter. (This project's own.)
use Rattle.std.specs.Prelude.{◌≡◌, ℕ, ◌+◌, ◌⊎◌, List, [], ◌∷◌, ◌++◌, Result, Ok, Err}
use Rattle.machine.specs.Inputs.{Session}
use Rattle.machine.specs.Machine.{session_answers}
use Rattle.machine.specs.PlainState.{plain_run}
use Rattle.replay.specs.Edits.{edited}
use Rattle.replay.specs.RunnerView.{RunnerView, SameOptions, KeepsUntouched, DropsOldest, AddsDueTo, AddsEachDueTo, TicksTo, rerun_start}
use Rattle.edit_lines.specs.declared.line.Command.{Command}
use Rattle.edit_lines.specs.declared.line.Command.TheVariants.{Edit, Run, DropOldest}
use Rattle.edit_lines.specs.declared.ending.ReplayFault.{ReplayFault}
use Rattle.edit_lines.specs.declared.ending.ReplayFault.TheVariants.{OutOfMemory}
use Rattle.edit_lines.specs.EditLine.{EditLine}
use Rattle.edit_lines.specs.Faults.{AreRead}

-- An edit that is applied leaves exactly the checkpoints that it does not touch; an edit that is refused changes nothing.
abbrev pub EditEffect : Result Session ℕ → RunnerView → RunnerView → Type 0
EditEffect (Ok s) old new =
    (new.session ≡ s) × SameOptions old new × (new.left_out ≡ old.left_out)
    × KeepsUntouched (session_answers old.session) (session_answers new.session) old.checkpoints new.checkpoints
EditEffect (Err n) old new = new ≡ old

-- A run adds to the meter the steps from the kept one where it begins, and makes the checkpoints that are due.
pub record RunEffect (old : RunnerView) (meter : ℕ) (new : RunnerView) (metered : ℕ) : Type 0 where
  pub session : new.session ≡ old.session
  pub options : SameOptions old new
  pub ticked : metered + rerun_start old ≡ meter + (plain_run old.session).steps
  pub reran : AddsEachDueTo old new (plain_run old.session).steps

-- What a command does to a runner and a meter.
abbrev pub Effect : Command → RunnerView → ℕ → RunnerView → ℕ → Type 0
Effect (Edit e) old meter new metered = EditEffect (edited old.session e) old new × (metered ≡ meter)
Effect Run old meter new metered = RunEffect old meter new metered
Effect (DropOldest n) old meter new metered = DropsOldest n old new × (metered ≡ meter)

-- The commands of the lines have their effects one after the other, and nothing else is done.
pub data Effects : RunnerView → ℕ → List (List ℕ) → RunnerView → ℕ → Type 0 where
  none : {r : RunnerView} {m : ℕ} → Effects r m [] r m
  more : {r s t : RunnerView} {k m n : ℕ} {l : List ℕ} {ls : List (List ℕ)} (c : Command) → EditLine l c
      → Effect c r k s m → Effects s m ls t n → Effects r k (l ∷ ls) t n

-- A run that runs out of memory on its way: the meter counts the steps from where it begins up to some step, and some due
-- checkpoints were made.
pub record RunCutShort (old : RunnerView) (meter : ℕ) (new : RunnerView) (metered : ℕ) : Type 0 where
  pub session : new.session ≡ old.session
  pub options : SameOptions old new
  pub ticked : TicksTo (session_answers old.session) old.session.limit (rerun_start old) meter metered
  pub reran : AddsDueTo old new old.session.limit

-- These first lines of the bytes had their effects, and then the run of the next line was cut short.
pub record EffectsCutShort (first : RunnerView) (begun : ℕ) (bytes : List ℕ) (done : List (List ℕ)) (now : RunnerView) (meter : ℕ) : Type 0 where
  pub before : RunnerView
  pub metered : ℕ
  pub effects : Effects first begun done before metered
  pub is_run : (line : List ℕ) × AreRead bytes (done ++ line ∷ []) × EditLine line Run
  pub part : RunCutShort before metered now meter

-- What a replay did, by its result, if it read these bytes and executed these lines: each line had its effect. If an allocation failed, the
-- run of the next line may have been cut short.
abbrev pub HasEffects : {T : Type 0} → RunnerView → ℕ → List ℕ → List (List ℕ) → RunnerView → ℕ → Result T ReplayFault → Type 0
HasEffects first begun bytes done now meter (Err OutOfMemory) = Effects first begun done now meter ⊎ EffectsCutShort first begun bytes done now meter
HasEffects first begun bytes done now meter result = Effects first begun done now meter
