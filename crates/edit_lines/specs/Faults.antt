-- What holds at the end of a replay, by its result. (This project's own.)
use Rattle.std.specs.Prelude.{◌*◌, ◌≡◌, ℕ, ◌+◌, ◌<◌, ◌≤◌, ◌⊎◌, List, ◌∷◌, [], ◌++◌, length, Option, IfSome, Result, Ok, Err}
use Rattle.std.specs.Io.KnownBytes.{IsAtEnd}
use Rattle.streams.specs.Streams.{Output, WritesPart, WritesWhole}
use Rattle.machine.specs.Inputs.{Session}
use Rattle.edit_lines.specs.declared.ending.Ending.{Ending}
use Rattle.edit_lines.specs.declared.ending.ReplayFault.{ReplayFault}
use Rattle.edit_lines.specs.declared.ending.ReplayFault.TheVariants.{Malformed, LineTooLong, Read, Write, OutOfMemory}
use Rattle.edit_lines.specs.Allocating.{LineAllocates}
use Rattle.edit_lines.specs.Pieces.{pieces, lines_of, past_lines}
use Rattle.edit_lines.specs.Replay.{ReplayEnd, Finished, MalformedAt, TooLongAt, Replays}
use Rattle.edit_lines.specs.declared.limits.TheConstants.{LINE_LIMIT, LINES_LIMIT}

-- A session, and what a writer holds.
pub record ReplayView : Type 0 where
  pub session : Session
  pub output : Output

abbrev pub replay_view : Session → Output → ReplayView
replay_view session output = record { session = session; output = output }

-- The lines are the first lines of the bytes.
abbrev pub AreRead : List ℕ → List (List ℕ) → Type 0
AreRead bytes lines = (others : List (List ℕ)) × (lines_of bytes ≡ lines ++ others)

-- The lines of an input of which these bytes were read: `done`, and then `next`. `left` is what is left, if the reader reports that; else
-- they are the lines of some text that begins with the bytes. All of `done` was read, and little more.
pub record AreLines (left : Option (List ℕ)) (bytes : List ℕ) (done next : List (List ℕ)) : Type 0 where
  pub rest : List ℕ
  pub whole : IfSome left (λ all. all ≡ rest)
  pub cut : lines_of (bytes ++ rest) ≡ done ++ next
  pub read : AreRead bytes done
  pub near : length (past_lines (length done) bytes) ≤ 2 * LINE_LIMIT

-- The replay of the lines has this end, and exactly its text was written.
pub record WritesReplies (old : ReplayView) (lines : List (List ℕ)) (new : ReplayView) (end : ReplayEnd) : Type 0 where
  pub text : List ℕ
  pub replays : Replays old.session lines text new.session end
  pub written : WritesWhole old.output new.output text

-- The lines were replayed. All replies but the last were written whole, and the last one in part.
pub record WritesLastInPart (old : ReplayView) (lines : List (List ℕ)) (new : ReplayView) : Type 0 where
  pub earlier : List (List ℕ)
  pub cut : (last : List ℕ) × (lines ≡ earlier ++ last ∷ [])
  pub between : ReplayView
  pub whole : WritesReplies old earlier between (Finished (length earlier))
  pub reply : List ℕ
  pub replays : Replays old.session lines (whole.text ++ reply) new.session (Finished (length lines))
  pub part : WritesPart between.output new.output reply

-- Nothing was read, or the line after the executed ones may need memory.
abbrev pub MayAllocate : List ℕ → List (List ℕ) → Session → Type 0
MayAllocate bytes done s =
    (bytes ≡ [])
    ⊎ ((line : List ℕ) × AreRead bytes (done ++ line ∷ []) × (length done < LINES_LIMIT) × LineAllocates s line)

-- What holds after an error: these bytes were read, the lines `done` executed, and `next` are the lines after them.
abbrev pub Faults : List ℕ → List (List ℕ) → List (List ℕ) → ReplayView → ReplayView → ReplayFault → Type 0
Faults bytes done next old new (Malformed k) = (k ≡ length done + 1) × WritesReplies old (done ++ next) new (MalformedAt k)
Faults bytes done next old new (LineTooLong k) = (k ≡ length done + 1) × WritesReplies old (done ++ next) new (TooLongAt k)
Faults bytes done next old new Read = ((begun : List ℕ) × (pieces 10 bytes ≡ done ++ begun ∷ [])) × WritesReplies old done new (Finished (length done))
Faults bytes done next old new Write = WritesLastInPart old done new
Faults bytes done next old new OutOfMemory = WritesReplies old done new (Finished (length done)) × MayAllocate bytes done new.session

-- What holds at the end of a replay, by its result: all was read and replayed, or there was an error.
abbrev pub EndsReplay : Option (List ℕ) → List ℕ → List (List ℕ) → List (List ℕ) → ReplayView → ReplayView → Result Ending ReplayFault → Type 0
EndsReplay left bytes done next old new (Ok e) = IsAtEnd left × (lines_of bytes ≡ done) × WritesReplies old done new (Finished e.lines)
EndsReplay left bytes done next old new (Err f) = Faults bytes done next old new f
