-- What the whole run of a session depends on. (This project's own.)
--
-- A run depends on what it asks its session: the byte of a cell of the loaded memory, the byte at an offset of the script or that
-- there is none, and facts about the host files. A session that gives the same answers to all that another one was asked has the
-- same run, in whatever else the two differ: in program, tail, script and host files.
use Rattle.std.specs.Prelude.{◌≡◌, ℕ, Option, Some}
use Rattle.first_looks.specs.declared.question.Question.{Question}
use Rattle.first_looks.specs.FirstLooks.{FirstLooksView, step_of}
use Rattle.machine.specs.Cause.{Cause}
use Rattle.machine.specs.Inputs.{Session}
use Rattle.machine.specs.Session.{IsSession}
use Rattle.machine.specs.Machine.{session_answers, cold_run}
use Rattle.machine.specs.FirstLooks.{first_look, asking_steps}
use Rattle.machine.specs.PlainState.{plain_run}
use Rattle.machine.specs.PlainLaid.{plain_run_of}

-- The first step of a whole run that asks a question.
abbrev pub first_asked : Session → Question → Option ℕ
first_asked s q = first_look (session_answers s) q (asking_steps (cold_run s).steps s.limit)

-- The table has for each question the first step of a whole run that asks it, if there is one; and the run has this number of steps
-- and ends by this cause.
pub record AreDependencies (s : Session) (t : FirstLooksView) (steps : ℕ) (cause : Cause) : Type 0 where
  pub looks : (q : Question) → step_of t q ≡ first_asked s q
  pub steps_are : steps ≡ (cold_run s).steps
  pub cause_is : cause ≡ (cold_run s).cause

-- The second session gives the same answer to each question that the run of the first asks.
abbrev pub AnswersAlike : Session → Session → Type 0
AnswersAlike s t = (q : Question) (step : ℕ) → first_asked s q ≡ Some step → session_answers s q ≡ session_answers t q

-- Both sessions have the same run: the same registers, text and other state of the console, the same bytes written to the same cells,
-- the same done to the files, the same number of steps and the same cause.
pub record HasSameRun (s t : Session) : Type 0 where
  pub run : cold_run t ≡ cold_run s
  -- On the plain machine, memory and files at the end are what this run wrote, laid over its own session.
  pub plain : plain_run s ≡ plain_run_of s (cold_run s)
  pub other_plain : plain_run t ≡ plain_run_of t (cold_run s)
  -- The second run depends on the same.
  pub asked : (q : Question) → first_asked t q ≡ first_asked s q

-- A run depends on nothing else than what it asks.
abbrev pub DependenciesDecide : Type 0
DependenciesDecide = (s t : Session) → IsSession s → IsSession t → t.limit ≡ s.limit → AnswersAlike s t → HasSameRun s t
