-- The machine that separates what a run wrote from what its session has: which of a step's questions reach the session.
-- (What is looked at: this project's profile.)
use Rattle.std.specs.Prelude.{◌≡◌, ℕ, ◌||◌, nat_lt, if◌then◌else◌, Bool, true, false, List, [], ◌∷◌, Option, Some, None, slice_get, drop}
use Rattle.std.specs.FinMap as map
use Rattle.interaction_trees.specs.Tree.{Tree, Return, Query}
use Rattle.interaction_trees.specs.Outcome.{Outcome, Step, Stop}
use Rattle.interaction_trees.specs.Run.{RunResult, run_to_limit}
use Rattle.interaction_trees.specs.Steps as steps
use Rattle.interaction_trees.specs.Dependence as dependence
use Rattle.i8080.specs.Memory.{is_among}
use Rattle.i8080.specs.Memory as memory
use Rattle.console_calls.specs.declared.cause.Cause.{Cause}
use Rattle.console_calls.specs.declared.cause.Cause.TheVariants.{Limit}
use Rattle.console_calls.specs.ScriptLooks.{is_within}
use Rattle.console_calls.specs.StateQuestions.{Byte, Input}
use Rattle.hostfiles.specs.FileLooks.{is_looked}
use Rattle.hostfiles.specs.FileLooks as file_looks
use Rattle.hostfiles.specs.declared.looks.Ask.{Ask}
use Rattle.first_looks.specs.declared.question.Question.{Question}
use Rattle.first_looks.specs.declared.question.Question.TheVariants.{Cell, Script, Host as OfHost}
use Rattle.first_looks.specs.Questions.{is_in}
use Rattle.file_calls.specs.Deletes.{own_after_change}
use Rattle.bdos.specs.SystemQuestions.{SystemQuestion, OfState, OfFiles, SystemAnswer, SystemAnswers}
use Rattle.file_calls.specs.HostTrees.{HostAnswer, HostTree, host_answers}
use Rattle.file_calls.specs.HostTrees as passing
use Rattle.machine.specs.Inputs.{Session}
use Rattle.machine.specs.StateView.{OwnCells, Own, PartialState, AllLooks}
use Rattle.machine.specs.Session.{image_of}
use Rattle.machine.specs.Step.{StepEnd, Went, Stopped, first_core, desk_with, next}

-- ---- questions to the session

abbrev pub Answer : Question → Type 0
Answer (Cell a) = ℕ
Answer (Script k) = Option ℕ
Answer (OfHost a) = HostAnswer a

abbrev pub Answers : Type 0
Answers = (q : Question) → Answer q

-- The answers of a session.
abbrev pub session_answers : Session → Answers
session_answers s (Cell a) = image_of s a
session_answers s (Script k) = slice_get s.script k
session_answers s (OfHost a) = host_answers s.files a

-- ---- what is own, and what the session is asked instead

abbrev pub own_or_ask : Option ℕ → ℕ → Tree Question Answer ℕ
own_or_ask None a = Query (Cell a) Return
own_or_ask (Some v) a = Return v

-- A tree of questions to the host files, as a tree over the session.
abbrev pub host_tree_of : {E : Type 0} → HostTree E → Tree Question Answer E
host_tree_of (Return e) = Return e
host_tree_of (Query a t) = Query (OfHost a) (λ x. host_tree_of (t x))

-- The answer of a state that owns o, as a tree over the session.
abbrev pub session_tree : Own → (q : SystemQuestion) → Tree Question Answer (SystemAnswer q)
session_tree o (OfState (Byte a)) = own_or_ask (map.get o.cells a) a
session_tree o (OfState (Input k)) = Query (Script k) Return
session_tree o (OfFiles q) = host_tree_of (passing.host_tree o.files q)

-- The answers of the state that owns o, over a session that answers f.
abbrev pub laid : Own → Answers → SystemAnswers
laid = dependence.laid session_tree

-- The byte of a cell in a state of a session: the written byte, or else the session's.
abbrev pub cell_at : Session → PartialState → ℕ → ℕ
cell_at s st a = laid st.own (session_answers s) (OfState (Byte a))

-- A byte written to a cell; there are 65,536 cells. [8080 manual 1975, chapter 4, memory]
abbrev pub with_cell : OwnCells → ℕ → ℕ → OwnCells
with_cell m a v = if nat_lt a 65536 then map.insert m a v else m

abbrev pub with_cells : OwnCells → List (ℕ × ℕ) → OwnCells
with_cells m [] = m
with_cells m (w ∷ rest) = with_cells (with_cell m w.0 w.1) rest

abbrev pub outcome_with : PartialState → StepEnd → Outcome PartialState Cause
outcome_with st (Went r spot bytes written change) =
    Step (record {
      core = record { regs = r; desk = desk_with st.core.desk spot bytes };
      own = record { cells = with_cells st.own.cells written.cells; files = own_after_change change st.own.files };
    })
outcome_with st (Stopped cause) = Stop cause

-- ---- a run

-- The loaded state: nothing is written yet.
abbrev pub start : PartialState
start = record { core = first_core; own = record { cells = map.empty; files = map.empty } }

-- The outcome that follows a state, without regard to the limit.
abbrev pub outcome : Answers → PartialState → Outcome PartialState Cause
outcome = dependence.outcome session_tree (λ (st : PartialState). st.own) (λ (st : PartialState). next st.core) outcome_with start

-- The questions that reach the session there, also if a stop follows.
abbrev pub looks_at : Answers → PartialState → List Question
looks_at = dependence.looks_at session_tree (λ (st : PartialState). st.own) (λ (st : PartialState). next st.core) outcome_with start

-- The state after n steps; `None` if a stop comes before.
abbrev pub after : Answers → ℕ → Option PartialState
after f n = steps.after (outcome f) start n

-- The run of a session up to its limit.
unfoldable pub cold_run : Session → RunResult PartialState Cause
cold_run s = run_to_limit (outcome (session_answers s)) Limit s.limit start

-- The questions that reach the session at the state after n steps.
abbrev pub looks : Answers → ℕ → List Question
looks = dependence.looks session_tree (λ (st : PartialState). st.own) (λ (st : PartialState). next st.core) outcome_with start

-- Some number of steps leads to the state.
abbrev pub IsReached : Answers → PartialState → Type 0
IsReached f st = (n : ℕ) × (after f n ≡ Some st)

-- ---- looks

-- Whether a question was looked at.
abbrev pub is_looked_at : AllLooks → Question → Bool
is_looked_at looked (Cell a) = is_among a looked.cells
is_looked_at looked (Script k) = is_within looked.offsets k
is_looked_at looked (OfHost a) = is_looked looked.files a

-- No question was asked of the host files.
abbrev pub HasNoHostQuestions : AllLooks → Type 0
HasNoHostQuestions looked = (a : Ask) → is_looked_at looked (OfHost a) ≡ false

-- Neither a script offset was looked at, nor the host files.
pub record HasNoQuestions (looked : AllLooks) : Type 0 where
  pub offsets : (k : ℕ) → is_looked_at looked (Script k) ≡ false
  pub files : HasNoHostQuestions looked

-- Nothing was looked at.
pub record HasNoLooks (looked : AllLooks) : Type 0 where
  pub cells : looked.cells ≡ []
  pub questions : HasNoQuestions looked

-- The looks without the first n cells.
abbrev pub looks_from : ℕ → AllLooks → AllLooks
looks_from n looked = record looked { cells = drop n looked.cells }

-- Exactly these questions were looked at, as well as the earlier ones.
abbrev pub AddsLooks : AllLooks → List Question → AllLooks → Type 0
AddsLooks old qs new = (q : Question) → is_looked_at new q ≡ (is_looked_at old q || is_in q qs)

-- Nothing was looked at except the earlier looks and some of these questions.
abbrev pub AddsNoOtherLooks : AllLooks → List Question → AllLooks → Type 0
AddsNoOtherLooks old qs new = (q : Question) → is_looked_at new q ≡ true → (is_looked_at old q || is_in q qs) ≡ true

-- More was looked at: more cells after the earlier ones, and all earlier offsets and questions.
pub record KeepsLooks (old new : AllLooks) : Type 0 where
  pub cells : memory.Extends old.cells new.cells
  pub offsets : (k : ℕ) → is_within old.offsets k ≡ true → is_within new.offsets k ≡ true
  pub files : file_looks.KeepsAsks old.files new.files
