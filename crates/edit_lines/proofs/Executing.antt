-- The effects of a command and of a line.
use Rattle.std.proofs.Common.{◌≡◌, ℕ, ◌+◌, ◌≤◌, ◌⊎◌, List, ap, subst, inl, inr, Result, Ok, Err}
use Rattle.streams.specs.Streams.{WritesPart, WritesWhole}
use Rattle.machine.specs.Inputs.{Session}
use Rattle.machine.specs.PlainState.{PlainRun, plain_run}
use Rattle.replay.specs.Edits.{edited}
use Rattle.replay.specs.RunnerView.{RunnerView, SameOptions, AddsEachDueTo, rerun_start}
use Rattle.edit_lines.specs.declared.line.Command.{Command}
use Rattle.edit_lines.specs.declared.line.Command.TheVariants.{Edit, Run, DropOldest}
use Rattle.edit_lines.specs.declared.ending.ReplayFault.{ReplayFault}
use Rattle.edit_lines.specs.declared.ending.ReplayFault.TheVariants.{Malformed, Write}
use Rattle.edit_lines.specs.declared.limits.TheConstants.{LINES_LIMIT}
use Rattle.edit_lines.specs.EditLine.{EditLine}
use Rattle.edit_lines.specs.Effects.{EditEffect, Effect, RunEffect, RunCutShort}
use Rattle.edit_lines.specs.Progress.{ExecutesCommand, ExecutesLine, ReplayState}
use Rattle.edit_lines.specs.Replay.{edit_after, reply, session_after}
use Rattle.edit_lines.specs.Replies.{Replies}

after_edit : (old new : RunnerView) (wanted : Result Session ℕ) → EditEffect wanted old new → new.session ≡ edit_after old.session wanted
after_edit old new (Ok s) h = h.0
after_edit old new (Err n) h = ap (λ (r : RunnerView). r.session) h

pub session_after_effect : (c : Command) (old : RunnerView) (meter : ℕ) (new : RunnerView) (metered : ℕ) → Effect c old meter new metered → new.session ≡ session_after old.session c
session_after_effect (Edit e) old meter new metered h = after_edit old new (edited old.session e) h.0
session_after_effect Run old meter new metered h = h.session
session_after_effect (DropOldest n) old meter new metered h = ap (λ (r : RunnerView). r.session) h.0

-- Nothing was done, or a run was cut short.
pub session_left : (P : Type 0) (old : RunnerView) (meter : ℕ) (new : RunnerView) (metered : ℕ)
    → ((new ≡ old) × (metered ≡ meter)) ⊎ (P × RunCutShort old meter new metered) → new.session ≡ old.session
session_left P old meter new metered (inl same) = ap (λ (r : RunnerView). r.session) same.0
session_left P old meter new metered (inr part) = part.1.session

-- A command had its effect, and this reply to it was written.
pub replied : (c : Command) (old new : ReplayState) (text : List ℕ) (r : Result (Unit {0}) ReplayFault)
    → Effect c old.runner old.meter new.runner new.meter → text ≡ reply old.runner.session c → Replies old.output new.output text r → ExecutesCommand c old new r
replied c old new text (Ok u) did is w = (did, subst (WritesWhole old.output new.output) is w)
replied c old new text (Err Write) did is w = (did, subst (WritesPart old.output new.output) is w.1)
replied c old new text (Err f) did is w = let no = w.0 in absurd (cc)

-- The effect of a run, from its report.
pub run_effect : (old : RunnerView) (meter : ℕ) (new : RunnerView) (metered : ℕ) (run : PlainRun) → run ≡ plain_run old.session → new.session ≡ old.session
    → SameOptions old new → metered + rerun_start old ≡ meter + run.steps
    → AddsEachDueTo old new run.steps → RunEffect old meter new metered
run_effect old meter new metered run is session options ticked made =
    let steps : run.steps ≡ (plain_run old.session).steps = ap (λ (r : PlainRun). r.steps) is in
    record {
      session = session;
      options = options;
      ticked = rw steps at ticked;
      reran = subst (λ (k : ℕ). AddsEachDueTo old new k) steps made;
    }

-- The effect of a line, from the effect of its command.
pub executes_line : (n : ℕ) (line : List ℕ) (c : Command) (old new : ReplayState) (r : Result (Unit {0}) ReplayFault)
    → n ≤ LINES_LIMIT → EditLine line c → ExecutesCommand c old new r → ExecutesLine n line old new r
executes_line n line c old new (Err (Malformed k)) few is h = absurd h
executes_line n line c old new r few is h = (c, few, is, h)
