-- Steps one after another. (This project's own.)
use Rattle.std.specs.Prelude.{◌≡◌, ℕ, ◌+◌, ◌<◌, ◌≤◌, Bool, true, false, Option, Some, IfOk, IfNone, IfSome, OnErr}
use Rattle.std.specs.declared.result.Result.{Result}
use Rattle.std.specs.declared.alloc.AllocError.{AllocError}
use Rattle.interaction_trees.specs.Outcome.{Stop}
use Rattle.console_calls.specs.declared.cause.Cause.{Cause}
use Rattle.pagemem.specs.ImageParts.{image_with}
use Rattle.machine.specs.Inputs.{Session}
use Rattle.machine.specs.declared.stretch.Until.{Until}
use Rattle.machine.specs.declared.stretch.Until.TheVariants.{End, Call, EndUnnoted}
use Rattle.machine.specs.StateView.{AllLooks, PartialState, StateView}
use Rattle.machine.specs.Step.{is_call}
use Rattle.machine.specs.Bound.{IsBound}
use Rattle.first_looks.specs.declared.question.Question.{Question}
use Rattle.first_looks.specs.Questions.{is_in}
use Rattle.machine.specs.Machine.{Answers, session_answers, after, outcome, looks, is_looked_at}

-- Each step from `from` on and below `upto` looks only at what these looks contain.
abbrev pub LooksAtNothingNew : Answers → AllLooks → ℕ → ℕ → Type 0
LooksAtNothingNew f looked from upto = (i : ℕ) → from ≤ i → i < upto → (q : Question) → is_in q (looks f i) ≡ true → is_looked_at looked q ≡ true

-- No step from `from` on and below `upto` is a call.
abbrev pub CallsNothing : Answers → ℕ → ℕ → Type 0
CallsNothing f from upto = (i : ℕ) (st : PartialState) → from ≤ i → i < upto → after f i ≡ Some st → is_call st.core ≡ false

-- A session has this state after `from` steps, and the known cells belong to its image.
pub record StartsIn (s : Session) (from : ℕ) (start : StateView) : Type 0 where
  pub bound : IsBound s start
  pub at : after (session_answers s) from ≡ Some start.state

-- n steps of a session from `from` on led to a state; none of them looked at anything but what these looks contain, and none is a call.
pub record GoesQuietly (s : Session) (from n : ℕ) (looked : AllLooks) (new : PartialState) : Type 0 where
  pub at : after (session_answers s) (from + n) ≡ Some new
  pub quiet : LooksAtNothingNew (session_answers s) looked from (from + n)
  pub calls : CallsNothing (session_answers s) from (from + n)

-- n steps led from one state to another, in each session and at each step that starts in the first; none of them looked at anything
-- new, and none is a call.
pub record RunsQuietly (n : ℕ) (old new : StateView) : Type 0 where
  pub goes : (s : Session) (from : ℕ) → StartsIn s from old → GoesQuietly s from n old.looked new.state
  pub looked : new.looked ≡ old.looked
  pub beneath : image_with new.beneath ≡ image_with old.beneath

-- Whether a run ends when it cannot note a step.
abbrev pub needs_notes : Until → Bool
needs_notes EndUnnoted = false
needs_notes until = true

-- A run that is to end there came to its last step, or to a call before it.
abbrev pub Ends : Until → ℕ → ℕ → PartialState → Type 0
Ends End n end st = n ≡ end
Ends Call n end st = n < end → is_call st.core ≡ true
Ends EndUnnoted n end st = n ≡ end

-- Steps from `from` on led to the state after n steps: to where the run is to end, to a stop before it, or to an error, which comes before it
-- unless a step cannot be noted. A run to a call makes no call and does not stop at one.
pub record RunsTo (until : Until) (s : Session) (from end n : ℕ) (result : Result (Option Cause) AllocError) (new : PartialState) : Type 0 where
  pub within : (from ≤ n) × (n ≤ end)
  pub at : after (session_answers s) n ≡ Some new
  pub ended : IfOk result (λ stop. IfNone stop (Ends until n end new))
  pub stopped : IfOk result (λ stop. IfSome stop (λ cause. (n < end) × (outcome (session_answers s) new ≡ Stop cause)))
  pub failed : needs_notes until ≡ false → OnErr result (n < end)
  pub calls : until ≡ Call → CallsNothing (session_answers s) from n
  pub apart : until ≡ Call → IfOk result (λ stop. IfSome stop (λ _. is_call new.core ≡ false))
