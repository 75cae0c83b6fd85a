-- How far a replay has come, and the result of each of its parts. (This project's own.)
use Rattle.std.specs.Prelude.{◌≡◌, ℕ, ◌+◌, ◌<◌, ◌≤◌, ◌⊎◌, List, [], ◌∷◌, ◌++◌, length, Result, Ok, Err}
use Rattle.streams.specs.Streams.{Output, WritesPart, WritesWhole}
use Rattle.replay.specs.RunnerView.{RunnerView}
use Rattle.edit_lines.specs.declared.line.Command.{Command}
use Rattle.edit_lines.specs.declared.line.Command.TheVariants.{Run}
use Rattle.edit_lines.specs.declared.ending.ReplayFault.{ReplayFault}
use Rattle.edit_lines.specs.declared.ending.ReplayFault.TheVariants.{Malformed, LineTooLong, Write, OutOfMemory}
use Rattle.edit_lines.specs.Allocating.{CommandAllocates, NamesBytes}
use Rattle.edit_lines.specs.EditLine.{EditLine}
use Rattle.edit_lines.specs.Effects.{Effect, RunCutShort}
use Rattle.edit_lines.specs.Pieces.{first_piece, pieces}
use Rattle.edit_lines.specs.Replay.{IsMalformed, reply}
use Rattle.edit_lines.specs.declared.limits.TheConstants.{LINE_LIMIT, LINES_LIMIT}

-- What a replay changes: its runner, the count of its meter, and its output.
pub record ReplayState : Type 0 where
  pub runner : RunnerView
  pub meter : ℕ
  pub output : Output

abbrev pub replay_state : RunnerView → ℕ → Output → ReplayState
replay_state runner meter output = record { runner = runner; meter = meter; output = output }

-- What a command did, by its result. If its reply could not be written whole, it was executed. If an allocation failed, nothing was
-- written, and nothing was done, or it is a run that was cut short.
abbrev pub ExecutesCommand : {U : Type 0} → Command → ReplayState → ReplayState → Result U ReplayFault → Type 0
ExecutesCommand c old new (Ok _) =
    Effect c old.runner old.meter new.runner new.meter × WritesWhole old.output new.output (reply old.runner.session c)
ExecutesCommand c old new (Err Write) =
    Effect c old.runner old.meter new.runner new.meter × WritesPart old.output new.output (reply old.runner.session c)
ExecutesCommand c old new (Err OutOfMemory) =
    (NamesBytes c ⊎ CommandAllocates old.runner.session c) × (new.output ≡ old.output)
    × (((new.runner ≡ old.runner) × (new.meter ≡ old.meter)) ⊎ ((c ≡ Run) × RunCutShort old.runner old.meter new.runner new.meter))
ExecutesCommand c old new result = ⊥

-- What line number n did, by its result.
abbrev pub ExecutesLine : {U : Type 0} → ℕ → List ℕ → ReplayState → ReplayState → Result U ReplayFault → Type 0
ExecutesLine n line old new (Err (Malformed k)) = (k ≡ n) × IsMalformed n line × (new ≡ old)
ExecutesLine n line old new result = (c : Command) × (n ≤ LINES_LIMIT) × EditLine line c × ExecutesCommand c old new result

-- The lines after the first n were executed in order, and their replies written.
pub data Executes : ℕ → ReplayState → List (List ℕ) → ReplayState → Type 0 where
  none : {n : ℕ} {s : ReplayState} → Executes n s [] s
  more : {n : ℕ} {s t u : ReplayState} {l : List ℕ} {ls : List (List ℕ)} → length l ≤ LINE_LIMIT
      → ExecutesLine {U = Unit {0}} (n + 1) l s t (Ok tt) → Executes (n + 1) t ls u → Executes n s (l ∷ ls) u

-- More bytes were read after the beginning of line number n + 1. Each line that ended was executed, and `left` is the beginning of line
-- number m + 1.
pub record Takes (n : ℕ) (old : ReplayState) (line bytes : List ℕ) (m : ℕ) (new : ReplayState) (left : List ℕ) : Type 0 where
  pub done : List (List ℕ)
  pub counted : m ≡ n + length done
  pub executed : Executes n old done new
  pub cut : (text : List ℕ) (lines : List (List ℕ)) → pieces 10 text ≡ lines ++ line ∷ []
      → pieces 10 (text ++ bytes) ≡ (lines ++ done) ++ left ∷ []

-- Why line number n + 1 is not executed, if these bytes follow its beginning: it is too long, or it ends there and fails.
abbrev pub FailsAt : ℕ → List ℕ → List ℕ → ReplayState → ReplayState → ReplayFault → Type 0
FailsAt n line bytes old new (LineTooLong k) = (k ≡ n + 1) × (new ≡ old) × (LINE_LIMIT < length line + length (first_piece 10 bytes))
FailsAt n line bytes old new fault = ((rest : List ℕ) × (bytes ≡ 10 ∷ rest)) × ExecutesLine {U = Unit {0}} (n + 1) line old new (Err fault)

-- More bytes were read after the beginning of line number n + 1. The lines that ended were executed, up to one that is not.
pub record Breaks (n : ℕ) (old : ReplayState) (line bytes : List ℕ) (new : ReplayState) (fault : ReplayFault) : Type 0 where
  pub m : ℕ
  pub last : ReplayState
  pub held : List ℕ
  pub taken : List ℕ
  pub rest : List ℕ
  pub split : taken ++ rest ≡ bytes
  pub takes : Takes n old line taken m last held
  pub short : length held ≤ LINE_LIMIT
  pub fails : FailsAt m held rest last new fault
