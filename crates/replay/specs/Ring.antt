-- Checkpoints: which are valid, and which a rerun may add. (This project's own.)
use Rattle.std.specs.Prelude.{◌≡◌, ℕ, ◌<◌, ◌≤◌, ◌%◌, List, [], ◌∷◌, ◌++◌, Option, Some, IfSome, ◌⊎◌, max, nat_le, if◌then◌else◌, length, take, map}
use Rattle.circular_buffer.specs.Buffer.{Buffer, buffer, keep_last}
use Rattle.machine.specs.Machine.{Answers, after}
use Rattle.machine.specs.StateView.{PartialState}
use Rattle.machine.specs.SavedState.{state_with_text, saved_state_of}
use Rattle.replay.specs.declared.ring.Checkpoint.{Checkpoint}

-- P holds for each item.
abbrev pub Each : {X : Type 0} → (X → Type 0) → List X → Type 0
Each P [] = Unit {0}
Each P (x ∷ xs) = P x × Each P xs

-- The steps, the oldest first.
abbrev pub steps : List Checkpoint → List ℕ
steps ring = map (λ c. c.step) ring

-- With some text of the length that is kept, the checkpoint is the state after its step, which is not 0.
pub record IsValid (f : Answers) (c : Checkpoint) : Type 0 where
  pub later : 1 ≤ c.step
  pub text : List ℕ
  pub fits : length text ≡ c.state.length
  pub state : after f c.step ≡ Some (state_with_text c.state text)

-- The checkpoint is the state after its step, which is not 0, with a prefix of this text.
pub record IsValidFor (f : Answers) (text : List ℕ) (c : Checkpoint) : Type 0 where
  pub later : 1 ≤ c.step
  pub fits : c.state.length ≤ length text
  pub state : after f c.step ≡ Some (state_with_text c.state (take c.state.length text))

-- For anything that has a step, given by `at`.
module _ {X : Type 0} (at : X → ℕ) where
  -- The steps rise.
  abbrev pub RisingBy : List X → Type 0
  RisingBy [] = Unit {0}
  RisingBy (x ∷ xs) = Each (λ y. at x < at y) xs × RisingBy xs

  -- A step that a run from `from` reached, above all that was kept, and a multiple of the spacing or the last step.
  pub record IsDueBy (kept : List X) (from upto last spacing step : ℕ) : Type 0 where
    pub reached : (from < step) × (step ≤ upto)
    pub above : Each (λ x. at x < step) kept
    pub marked : (step % spacing ≡ 0) ⊎ (step ≡ last)

  -- The new list is the last `slots` items of the old one followed by some rising list of due steps. So is the last one that was left
  -- out, if there is one.
  pub record AddsBy (old new : List X) (slots from upto last spacing : ℕ) (left_out : Option ℕ) : Type 0 where
    pub made : List X
    pub kept : new ≡ keep_last slots (old ++ made)
    pub due : Each (λ x. IsDueBy old from upto last spacing (at x)) made
    pub rising : RisingBy made
    pub left : IfSome left_out (IsDueBy old from upto last spacing)

  -- Some item is at this step.
  abbrev pub SomeBy : List X → ℕ → Type 0
  SomeBy [] n = ⊥
  SomeBy (x ∷ xs) n = (at x ≡ n) ⊎ SomeBy xs n

  -- The same, and each due step after the last one that was left out is there.
  pub record AddsEachBy (old new : List X) (slots from upto last spacing : ℕ) (left_out : Option ℕ) : Type 0 where
    pub adds : AddsBy old new slots from upto last spacing left_out
    pub complete : (k : ℕ) → IsDueBy old from upto last spacing k → IfSome left_out (λ n. n < k) → SomeBy adds.made k

  -- The greatest of the steps that is not past the limit, or else 0.
  abbrev pub start_by : ℕ → List X → ℕ
  start_by limit [] = 0
  start_by limit (x ∷ xs) = max (if nat_le (at x) limit then at x else 0) (start_by limit xs)

-- The same for checkpoints.
abbrev pub Rising : List Checkpoint → Type 0
Rising = RisingBy (λ c. c.step)

abbrev pub IsDue : List Checkpoint → ℕ → ℕ → ℕ → ℕ → ℕ → Type 0
IsDue = IsDueBy (λ c. c.step)

abbrev pub Adds : List Checkpoint → List Checkpoint → ℕ → ℕ → ℕ → ℕ → ℕ → Option ℕ → Type 0
Adds = AddsBy (λ c. c.step)

abbrev pub AddsEach : List Checkpoint → List Checkpoint → ℕ → ℕ → ℕ → ℕ → ℕ → Option ℕ → Type 0
AddsEach = AddsEachBy (λ c. c.step)

abbrev pub start_step : ℕ → List Checkpoint → ℕ
start_step = start_by (λ c. c.step)

-- Some checkpoint is at this step.
abbrev pub SomeStep : List Checkpoint → ℕ → Type 0
SomeStep = SomeBy (λ c. c.step)

-- The greatest of the steps, or 0.
pub record IsNewest (newest : ℕ) (ring : List Checkpoint) : Type 0 where
  pub greatest : Each (λ c. c.step ≤ newest) ring
  pub there : (newest ≡ 0) ⊎ SomeStep ring newest

-- The checkpoint of a state after a step.
abbrev pub checkpoint_at : ℕ → PartialState → Checkpoint
checkpoint_at step st = record { step = step; state = saved_state_of st }

-- The ring with one more checkpoint, and without its oldest if it was full.
abbrev pub ring_with : Buffer Checkpoint → Checkpoint → Buffer Checkpoint
ring_with old c = buffer (keep_last old.capacity (old.items ++ c ∷ [])) old.capacity

-- The ring is unchanged, or has one more checkpoint, above the newest, and not its oldest if it was full.
abbrev pub PushesIfAbove : ℕ → Buffer Checkpoint → Buffer Checkpoint → Checkpoint → Type 0
PushesIfAbove newest old new c = (new ≡ old) ⊎ ((newest < c.step) × (new ≡ ring_with old c))

abbrev pub HasCheckpoint : List Checkpoint → Checkpoint → Type 0
HasCheckpoint [] c = ⊥
HasCheckpoint (x ∷ xs) c = (x ≡ c) ⊎ HasCheckpoint xs c

-- The checkpoints up to a step are left, in order.
pub record DropsPast (touch : ℕ) (old new : List Checkpoint) : Type 0 where
  pub gone : List Checkpoint
  pub parts : old ≡ new ++ gone
  pub left : Each (λ c. c.step ≤ touch) new
  pub past : Each (λ c. touch < c.step) gone
