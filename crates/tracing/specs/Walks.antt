-- A walk along a run, and the lines that it pushes. (This project's own.)
use Rattle.std.specs.Prelude.{◌≡◌, false, ℕ, zero, suc, ◌-◌, ◌<◌, ◌≤◌, List, [], ◌++◌, length, drop, Option, Some, None, Result, Ok, Err}
use Rattle.std.specs.List.{concat}
use Rattle.console_calls.specs.declared.cause.Cause.{Cause}
use Rattle.machine.specs.Inputs.{Session}
use Rattle.machine.specs.PlainLaid.{plain_after}
use Rattle.machine.specs.PlainState.{PlainState, plain_run}
use Rattle.machine.specs.Runs.{EndsBy, RunView, StopsHere}
use Rattle.trace_filters.specs.Chosen.{has_line}
use Rattle.report_lines.specs.FirstLines.{stop_line}
use Rattle.streams.specs.Pushing.{Pushed, PushesPart, more}
use Rattle.tracing.specs.Trace.{all_lines, lines}
use Rattle.trace_filters.specs.declared.choice.Choice.{Choice}

-- The lines from the step of a run on; none after a stop.
abbrev pub lines_left : Choice → RunView → Option Cause → List (List ℕ)
lines_left c r None = lines c r.session r.step (r.session.limit - r.step)
lines_left c r (Some cause) = []

-- A line, or nothing while lines are left out.
abbrev pub kept_line : ℕ → List ℕ → List ℕ
kept_line zero line = line
kept_line (suc skip) line = []

-- The text of lines, without the first ones, which are left out.
abbrev pub kept_text : ℕ → List (List ℕ) → List ℕ
kept_text skip ls = concat (drop skip ls)

-- What is pushed, and how many of the next lines are left out.
pub record Walked : Type 0 where
  pub pushed : Pushed
  pub skip : ℕ

abbrev pub walked : Pushed → ℕ → Walked
walked pushed skip = record { pushed = pushed; skip = skip }

-- The same once these lines are walked over.
abbrev pub with_lines : Walked → List (List ℕ) → Walked
with_lines w ls = walked (more w.pushed (kept_text w.skip ls)) (w.skip - length ls)

-- A run went on, and what is left to walk over gives what was left; or an allocation failed after a prefix was pushed.
abbrev pub WalksOn : {E : Type 0} → Choice → RunView → Walked → RunView → Walked → Result (Option Cause) E → Type 0
WalksOn c old before new after (Ok stop) = with_lines after (lines_left c new stop) ≡ with_lines before (lines_left c old None)
WalksOn c old before new after (Err e) = PushesPart before.pushed after.pushed (kept_text before.skip (lines_left c old None))

-- The text of all lines of a session, without the first ones, and of the line of its stop.
abbrev pub text_after : Choice → Session → ℕ → List ℕ
text_after c s skip = kept_text skip (all_lines c s) ++ stop_line (plain_run s).cause

-- A run went on, at most to this step, or it is where a stop follows.
abbrev pub GoesBy : RunView → RunView → ℕ → Option Cause → Type 0
GoesBy old new end None = (old.step < new.step) × (new.step ≤ end)
GoesBy old new end (Some cause) = (old.step ≤ new.step) × (new.step < new.session.limit) × StopsHere new cause

-- A run is at most at this step, or where a stop follows.
abbrev pub IsWithin : RunView → ℕ → Option Cause → Type 0
IsWithin r end None = r.step ≤ end
IsWithin r end (Some cause) = (r.step < r.session.limit) × StopsHere r cause

-- A run is at this step, or where a stop follows.
abbrev pub EndsAt : RunView → ℕ → Option Cause → Type 0
EndsAt r end None = r.step ≡ end
EndsAt r end (Some cause) = (r.step < r.session.limit) × StopsHere r cause

-- No step of a session from `from` on and below `upto` has a line.
abbrev pub HasNoLine : Choice → Session → ℕ → ℕ → Type 0
HasNoLine c s from upto = (i : ℕ) (w : PlainState) → from ≤ i → i < upto → plain_after s i ≡ Some w → has_line c s i w ≡ false

-- A run is at its limit, or where a stop follows, by either account of its steps.
pub record IsEnd (r : RunView) (stop : Option Cause) : Type 0 where
  pub at : EndsAt r r.session.limit stop
  pub by : EndsBy r r.session.limit stop
