-- The replay of an edit text: a reply to each line in order, up to the first line that is too long or malformed. A line has at
-- most 65,536 bytes, and a text at most 1,000,000 lines. (This project's own.)
use Rattle.std.specs.Prelude.{◌≡◌, ℕ, ◌+◌, ◌<◌, ◌≤◌, ◌⊎◌, List, [], ◌∷◌, ◌++◌, length, codes, Result, Ok, Err}
use Rattle.std.specs.Fmt.{decimal}
use Rattle.std.specs.List.{concat}
use Rattle.machine.specs.Inputs.{Session}
use Rattle.machine.specs.PlainState.{plain_run}
use Rattle.replay.specs.Edits.{edited}
use Rattle.edit_lines.specs.declared.line.Command.{Command}
use Rattle.edit_lines.specs.declared.line.Command.TheVariants.{Edit, Run, DropOldest}
use Rattle.edit_lines.specs.EditLine.{EditLine}
use Rattle.report_lines.specs.FirstLines.{line}
use Rattle.edit_lines.specs.Reports.{report_text}
use Rattle.edit_lines.specs.declared.limits.TheConstants.{LINE_LIMIT, LINES_LIMIT}

-- The reply to an edit, by its result for the session.
abbrev pub edit_reply : Result Session ℕ → List ℕ
edit_reply (Ok s) = line (codes "ok")
edit_reply (Err n) = line (codes "refused " ++ decimal n)

-- The session after an edit.
abbrev pub edit_after : Session → Result Session ℕ → Session
edit_after s (Ok t) = t
edit_after s (Err n) = s

-- The reply to a command, and the session after it.
abbrev pub reply : Session → Command → List ℕ
reply s (Edit e) = edit_reply (edited s e)
reply s Run = report_text s (plain_run s)
reply s (DropOldest n) = line (codes "ok")

abbrev pub session_after : Session → Command → Session
session_after s (Edit e) = edit_after s (edited s e)
session_after s Run = s
session_after s (DropOldest n) = s

-- The lines are executed in order, each with its reply, from the first session to the last.
pub data ExecutesLines : Session → List (List ℕ) → List (List ℕ) → Session → Type 0 where
  none : {s : Session} → ExecutesLines s [] [] s
  more : {s t : Session} {l : List ℕ} {ls rs : List (List ℕ)} (c : Command) → length l ≤ LINE_LIMIT → EditLine l c
      → ExecutesLines (session_after s c) ls rs t → ExecutesLines s (l ∷ ls) (reply s c ∷ rs) t

-- How a replay ends: after n lines, or at a line.
pub data ReplayEnd : Type 0 where
  Finished : ℕ → ReplayEnd
  MalformedAt : ℕ → ReplayEnd
  TooLongAt : ℕ → ReplayEnd

-- Line number n has no command.
abbrev pub IsMalformed : ℕ → List ℕ → Type 0
IsMalformed n l = (LINES_LIMIT < n) ⊎ ((c : Command) → EditLine l c → ⊥)

-- How a replay ends after n lines, if these are left.
abbrev pub EndsAt : ℕ → List (List ℕ) → ReplayEnd → Type 0
EndsAt n left (Finished k) = (left ≡ []) × (k ≡ n)
EndsAt n [] (MalformedAt k) = ⊥
EndsAt n (l ∷ ls) (MalformedAt k) = (k ≡ n + 1) × (length l ≤ LINE_LIMIT) × IsMalformed k l
EndsAt n [] (TooLongAt k) = ⊥
EndsAt n (l ∷ ls) (TooLongAt k) = (k ≡ n + 1) × (LINE_LIMIT < length l)

-- The replay of these lines writes the text, leaves the last session and has this end.
pub record Replays (first : Session) (lines : List (List ℕ)) (text : List ℕ) (last : Session) (end : ReplayEnd) : Type 0 where
  pub done : List (List ℕ)
  pub left : List (List ℕ)
  pub replies : List (List ℕ)
  pub cut : lines ≡ done ++ left
  pub few : length done ≤ LINES_LIMIT
  pub executed : ExecutesLines first done replies last
  pub written : text ≡ concat replies
  pub ends : EndsAt (length done) left end
