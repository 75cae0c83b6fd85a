-- The ways in which the program ends. (This project's profile.)
use Rattle.std.specs.Prelude.{◌≡◌, ℕ, ◌⊎◌, List, Option, Some, None, IfSome}
use Rattle.std.specs.Borrow.{Bor}
use Rattle.std.specs.Io.KnownBytes.{Consumes}
use Rattle.command_words.specs.Clashes.{run_checks}
use Rattle.command_words.specs.ErrorClass.{HasErrorClass}
use Rattle.command_words.specs.RunLine.{AreWordsOf, run_faults, run_matches, session_words}
use Rattle.command_words.specs.declared.words.Words.{Words}
use Rattle.machine.specs.Inputs.{Session}
use Rattle.edit_lines.specs.declared.ending.ReplayFault.{ReplayFault}
use Rattle.edit_lines.specs.declared.ending.ReplayFault.TheVariants as replay_fault
use Rattle.faults.specs.declared.fault.Fault.{Fault}
use Rattle.faults.specs.declared.fault.Fault.TheVariants.{CannotRead, CannotWrite, Malformed, TooLong, OutOfMemory}
use Rattle.faults.specs.declared.tool.Tool.TheVariants.{Cpmrun}
use Rattle.streams.specs.Streams.{Output, WritesWhole}
use Rattle.folders.specs.FileSystem.{text_at}
use Rattle.edit_lines.specs.Pieces.{lines_of}
use Rattle.edit_lines.specs.Faults.{AreLines, Faults, replay_view}
use Rattle.edit_lines.specs.Replay.{Finished, Replays}
use Rattle.requests.specs.Acts.{exits}
use Rattle.requests.specs.Programs.{Program, Task}
use Rattle.cpmrun.specs.AreWords.{AreWords}
use Rattle.cpmrun.specs.RunEnds.{run_once}

-- The replay of the edit lines, from this session to their end, wrote its text. If a reader reports its bytes, these are the
-- lines.
pub record WritesReplay (source : Option (List ℕ)) (first : Session) (before after : Output) : Type 0 where
  pub last : Session
  pub bytes : List ℕ
  pub text : List ℕ
  pub count : ℕ
  pub whole : IfSome source (λ all. all ≡ bytes)
  pub written : WritesWhole before after text
  pub replayed : Replays first (lines_of bytes) text last (Finished count)

-- What a replay from this session wrote before this error broke it off, once these bytes of the reader were read.
pub record BreaksOffWith (f : ReplayFault) (source : Option (List ℕ)) (first : Session) (before after : Output) : Type 0 where
  pub left : Option (List ℕ)
  pub last : Session
  pub bytes : List ℕ
  pub done : List (List ℕ)
  pub next : List (List ℕ)
  pub read : Consumes source left bytes
  pub lines : AreLines left bytes done next
  pub leaves : Faults bytes done next (replay_view first before) (replay_view last after) f

-- What an error that broke off the replay of the edit lines of this path leaves; the file has these bytes if they are known.
abbrev pub BreaksReplay : List ℕ → Option (List ℕ) → Session → Output → Output → Fault → Type 0
BreaksReplay path source s old new (CannotRead p) = (p.now ≡ path) × ((new ≡ old) ⊎ BreaksOffWith replay_fault.Read source s old new)
BreaksReplay path source s old new CannotWrite = BreaksOffWith replay_fault.Write source s old new
BreaksReplay path source s old new (Malformed k) = BreaksOffWith (replay_fault.Malformed k) source s old new
BreaksReplay path source s old new (TooLong k) = BreaksOffWith (replay_fault.LineTooLong k) source s old new
BreaksReplay path source s old new OutOfMemory = (new ≡ old) ⊎ BreaksOffWith replay_fault.OutOfMemory source s old new
BreaksReplay path source s old new fault = ⊥

-- What holds of a replay of the words' session by the bytes of its edit lines, if they are known, and by what it wrote.
abbrev pub Replay : Type 1
Replay = Words → Session → Option (List ℕ) → Output → Output → Type 0

-- The edit lines of this path are replayed to their end, which leaves the files and standard error as they are.
abbrev pub replay_edits : Replay → Words → List ℕ → Task
replay_edits IsReplayed w path = record {
  session = session_words w;
  Refuses = λ fault. ⊥;
  Allows = Unit {0};
  act = λ s listings status. exits status 0 (record {
    Does = λ before after. (after.err ≡ before.err) × (after.files.bytes ≡ before.files.bytes) × IsReplayed w s (text_at before.files.bytes path) before.out after.out;
    Leaves = λ before after fault. BreaksReplay path (text_at before.files.bytes path) s before.out after.out fault × (after.files.bytes ≡ before.files.bytes);
  });
}

-- The words ask for that if they name edit lines, and otherwise for one run.
abbrev pub task_of : Replay → Words → Option (Bor (List ℕ)) → Task
task_of IsReplayed w None = run_once w
task_of IsReplayed w (Some path) = replay_edits IsReplayed w path.now

abbrev pub program_with : Replay → Program Words
program_with IsReplayed = record {
  tool = Cpmrun;
  Has = λ words. HasErrorClass (run_faults words);
  Have = λ words. AreWordsOf (run_matches words);
  checks = run_checks;
  Are = AreWords;
  task = λ w. task_of IsReplayed w w.edits;
}

-- `cpmrun`, whose replays write the texts of their lines.
abbrev pub by_text : Replay
by_text w s source before after = WritesReplay source s before after

abbrev pub cpmrun : Program Words
cpmrun = program_with by_text
