-- An instruction or a call over pages and files is a step of the machine.
use Rattle.std.proofs.Common.{inl, inr, ◌≡◌, ℕ, ◌<◌, ◌≤◌, ◌≢◌, Bool, true, false, ◌||◌, ◌&&◌, ◌==◌, not, List, [], ◌∷◌, ◌++◌, Option, Some, None, unwrap_or, is_some, refl, sym, ◌∙◌, ap, subst, arith, cond, IfSome, length, drop, take-append-drop}
use Rattle.std.proofs.Math.Bool.{or_assoc, or-false}
use Rattle.std.proofs.lemmas.Bool.{ne_eqb, lt-leb, le-leb}
use Rattle.std.proofs.lemmas.Bool.Decides.{eqb_tells}
use Rattle.std.proofs.lemmas.List.{append-nil}
use Rattle.std.specs.FinMap as finmap
use Rattle.std.specs.Borrow.{GName}
use Rattle.std.specs.Result.{IsErr}
use Rattle.std.specs.declared.result.Result.{Result}
use Rattle.std.specs.declared.result.Result.TheVariants.{Ok, Err}
use Rattle.std.specs.declared.alloc.AllocError.{AllocError}
use Rattle.interaction_trees.specs.Tree.{Return, result_of, questions_of, AgreeOn, map_result}
use Rattle.interaction_trees.specs.Outcome.{Step}
use Rattle.interaction_trees.specs.Dependence as dependence
use Rattle.interaction_trees.proofs.DependenceLemmas.{same_result, same_asked, result_of-returning, asked-returning}
use Rattle.i8080.specs.declared.registers.Regs.{Regs}
use Rattle.i8080.specs.declared.outcome.Did.{Did}
use Rattle.i8080.specs.Memory as memory
use Rattle.i8080.specs.Memory.{Memory, Looks, over, look, look_all, is_among, write_all}
use Rattle.i8080.specs.Reading.{Reading, Done}
use Rattle.i8080.specs.Reading as reading
use Rattle.i8080.specs.Instruction.{instruction}
use Rattle.i8080.specs.End as end
use Rattle.i8080.specs.Performs as end_left
use Rattle.i8080.proofs.LookLemmas.{is_among-append}
use Rattle.i8080.proofs.WriteLookLemmas.{extends_by}
use Rattle.i8080.proofs.BoundLemmas.{bound_here}
use Rattle.pagemem.specs.declared.overlay.Overlay.{Overlay}
use Rattle.pagemem.specs.Overlay.{own_of, looks_of}
use Rattle.pagemem.specs.declared.cells.Cells.{Cells as PagedCells}
use Rattle.pagemem.specs.Cells.{own_in}
use Rattle.console_calls.specs.declared.cause.Cause.{Cause}
use Rattle.console_calls.specs.declared.cause.Cause.TheVariants.{WarmBoot, SystemArea}
use Rattle.console_calls.specs.declared.served.Served.{Served}
use Rattle.console_calls.specs.Desk.{Desk}
use Rattle.console_calls.specs.ScriptLooks.{DeskLooks, is_within}
use Rattle.console_calls.specs.StateQuestions.{Byte, Input, addresses, script_offsets}
use Rattle.console_calls.specs.ConsoleCalls as calls
use Rattle.console_calls.specs.PerformsCall as calls_left
use Rattle.console_calls.specs.PerformsCall.{scene}
use Rattle.hostfiles.specs.Files as files
use Rattle.hostfiles.specs.Hosts.{Host}
use Rattle.hostfiles.specs.FileLooks.{is_looked}
use Rattle.hostfiles.specs.FileLooks as file_looks
use Rattle.hostfiles.proofs.LookLemmas.{extends_same}
use Rattle.hostfiles.specs.declared.changes.Changes.{Changes}
use Rattle.hostfiles.specs.declared.looks.FileLooks as file_questions_asked
use Rattle.hostfiles.specs.declared.looks.Ask.{Ask}
use Rattle.file_calls.specs.Deletes.{own_after_change}
use Rattle.file_calls.specs.TableView.{TableView, look_for, look_for_all}
use Rattle.file_calls.proofs.Extending.{within_all}
use Rattle.bdos.specs.SystemQuestions.{SystemQuestion, OfState, OfFiles, SystemAnswers, SystemTree, bind_reading}
use Rattle.bdos.specs.PerformsSystemCall.{system_answers, state_questions, file_questions, SystemPath, PerformsSystemCall, MakesSystemCall}
use Rattle.bdos.specs.FileCalls.{SystemEnd}
use Rattle.bdos.specs.SystemCalls.{call}
use Rattle.bdos.proofs.Trees.{path-reading}
use Rattle.file_calls.specs.HostTrees.{AreSoundOwnFiles}
use Rattle.file_calls.specs.HostTrees as passing
use Rattle.file_calls.proofs.Answering.{answers_are}
use Rattle.machine.specs.Inputs.{Session}
use Rattle.machine.specs.StateView.{Own, AllLooks, StateView}
use Rattle.machine.specs.declared.session.TheConstants.{SCRIPT_LIMIT}
use Rattle.machine.specs.Session.{image_of}
use Rattle.machine.specs.Step.{StepEnd, Went, Stopped, step_end_of, step_end_of_call, script_limit, script_limit-is, next, desk_with}
use Rattle.first_looks.specs.declared.question.Question.{Question}
use Rattle.first_looks.specs.declared.question.Question.TheVariants.{Cell, Script, Host as OfHost}
use Rattle.first_looks.specs.Questions.{same_question, is_in}
use Rattle.machine.specs.Machine.{Answers, session_answers, own_or_ask, host_tree_of, session_tree, laid, outcome_with, outcome, looks_at, is_looked_at, AddsNoOtherLooks}
use Rattle.machine.specs.WrittenCells.{written_cells, DeskAndFiles, devices_of, state_with}
use Rattle.machine.specs.Stops.{stop_of_instruction, stop_of_call}
use Rattle.machine.specs.TakesStep.{outcome_from, memory_over_image, drives_in, looks_in, view_with, TakesStep}
use Rattle.machine.proofs.WrittenCellLemmas.{InCells, in_cells, get_written, cells_written}
use Rattle.machine.proofs.HostLemmas.{result_of-asking_host, no_cell, no_place, mark_one}
use Rattle.machine.proofs.FitLemmas.{IsStill, call_fits}

-- A step, by registers, devices and an overlay.
abbrev pub Takes : Session → Regs → DeskAndFiles → Overlay → Result (Option Cause) AllocError → Regs → DeskAndFiles → Overlay → Type 0
Takes s r d o result r' d' o' = TakesStep s (view_with r d o) result (view_with r' d' o')

-- ---- the state's answers are the bytes of the memory, the script, and the files

agree_everywhere : (f g : SystemAnswers) → ((q : SystemQuestion) → f q ≡ g q) → (qs : List SystemQuestion) → AgreeOn qs f g
agree_everywhere f g h [] = tt
agree_everywhere f g h (q ∷ qs) = (h q, agree_everywhere f g h qs)

pub answered : (f : Answers) (o : Option ℕ) (a : ℕ) → result_of f (own_or_ask o a) ≡ unwrap_or o (f (Cell a))
answered f None a = refl
answered f (Some v) a = refl

-- The answers of pages, a session and files.
abbrev pub memory_answers : Session → (ℕ → Option ℕ) → files.OwnFiles → SystemAnswers
memory_answers s own done = system_answers (over own (image_of s)) s.script s.files done

abbrev pub own_written : (ℕ → Option ℕ) → files.OwnFiles → Own
own_written own done = record { cells = written_cells own; files = done }

-- A written cell, and a cell that was not written.
pub cell_written : (f : Answers) (own : ℕ → Option ℕ) (done : files.OwnFiles) → InCells own → (a v : ℕ) → own a ≡ Some v → laid (own_written own done) f (OfState (Byte a)) ≡ v
cell_written f own done h a v e = ap (λ o. result_of f (own_or_ask o a)) (get_written own h a ∙ e)

pub cell_asked : (f : Answers) (own : ℕ → Option ℕ) (done : files.OwnFiles) → InCells own → (a : ℕ) → own a ≡ None → laid (own_written own done) f (OfState (Byte a)) ≡ f (Cell a)
cell_asked f own done h a e = ap (λ o. result_of f (own_or_ask o a)) (get_written own h a ∙ e)

module _ (s : Session) (own : ℕ → Option ℕ) (done : files.OwnFiles) (h : InCells own) (sound : AreSoundOwnFiles s.files done) where
  same_answer : (q : SystemQuestion) → memory_answers s own done q ≡ laid (own_written own done) (session_answers s) q
  same_answer (OfState (Byte a)) = sym (ap (λ o. result_of (session_answers s) (own_or_ask o a)) (get_written own h a) ∙ answered (session_answers s) (own a) a)
  same_answer (OfState (Input k)) = refl
  same_answer (OfFiles q) = sym (result_of-asking_host (session_answers s) (passing.host_tree done q) ∙ answers_are s.files done sound q)

  pub laid_result : {E : Type 0} (t : SystemTree E) → result_of (laid (own_written own done) (session_answers s)) t ≡ result_of (memory_answers s own done) t
  laid_result t = same_result (memory_answers s own done) (laid (own_written own done) (session_answers s)) t (agree_everywhere _ _ same_answer _)

  pub laid_asked : {E : Type 0} (t : SystemTree E) → questions_of (laid (own_written own done) (session_answers s)) t ≡ questions_of (memory_answers s own done) t
  laid_asked t = same_asked (memory_answers s own done) (laid (own_written own done) (session_answers s)) t (agree_everywhere _ _ same_answer _)

-- ---- the looks

is_in-append : (q : Question) (xs ys : List Question) → is_in q (xs ++ ys) ≡ (is_in q xs || is_in q ys)
is_in-append q [] ys = refl
is_in-append q (x ∷ xs) ys = ap (λ b. same_question q x || b) (is_in-append q xs ys) ∙ sym (or_assoc (same_question q x) _ _)

-- A read passes its cell on to the session if the cell was not written.
one_asked : (f : Answers) (o : Option ℕ) (a q : ℕ) → is_in (Cell q) (questions_of f (own_or_ask o a)) ≡ ((q == a) && not (is_some o))
one_asked f None a q = pick (q == a) where
  pick : (b : Bool) → (b || false) ≡ (b && true)
  pick true = refl
  pick false = refl
one_asked f (Some v) a q = pick (q == a) where
  pick : (b : Bool) → false ≡ (b && false)
  pick true = refl
  pick false = refl

-- The cell is looked at then.
one_look : (own : ℕ → Option ℕ) (looks : Looks) (a q : ℕ) → is_among q (look own looks a) ≡ (is_among q looks || ((q == a) && not (is_some (own a))))
unfolding look
one_look own looks a q = pick (own a) (is_among a looks) refl where
  after : (b : Bool) → b ≡ is_among a looks → is_among q (cond b looks (looks ++ a ∷ [])) ≡ (is_among q looks || ((q == a) && true))
  after true e = elim (eqb_tells q a) [
    | inl same ↦ rw (same.0, same.1, ← e) refl
    | inr other ↦ rw other.0 (sym (or-false (is_among q looks)))
  ]
  after false e = is_among-append q looks (a ∷ []) ∙ ap (λ b. is_among q looks || b) (last (q == a)) where
    last : (b : Bool) → (b || false) ≡ (b && true)
    last true = refl
    last false = refl

  pick : (o : Option ℕ) (b : Bool) → b ≡ is_among a looks → is_among q (cond (is_some o || is_among a looks) looks (looks ++ a ∷ [])) ≡ (is_among q looks || ((q == a) && not (is_some o)))
  pick None b e = after (is_among a looks) refl
  pick (Some v) b e = none (q == a) where
    none : (b : Bool) → is_among q looks ≡ (is_among q looks || (b && false))
    none true = sym (or-false (is_among q looks))
    none false = sym (or-false (is_among q looks))

looks_of_cell : (f : Answers) (own : ℕ → Option ℕ) (done : files.OwnFiles) → InCells own → (qs : List SystemQuestion) (looks : Looks) (q : ℕ)
    → is_among q (look_all own (addresses (state_questions qs)) looks) ≡ (is_among q looks || is_in (Cell q) (dependence.session_questions session_tree (own_written own done) f qs))
looks_of_cell f own done h [] looks q = sym (or-false (is_among q looks))
looks_of_cell f own done h (OfState (Byte a) ∷ qs) looks q =
    looks_of_cell f own done h qs (look own looks a) q
    ∙ ap (λ b. b || is_in (Cell q) (dependence.session_questions session_tree (own_written own done) f qs)) (one_look own looks a q)
    ∙ or_assoc (is_among q looks) _ _
    ∙ ap (λ b. is_among q looks || b) (ap (λ b. b || is_in (Cell q) (dependence.session_questions session_tree (own_written own done) f qs)) (sym (one_asked f (own a) a q))
    ∙ ap (λ o. is_in (Cell q) (questions_of f (own_or_ask o a)) || is_in (Cell q) (dependence.session_questions session_tree (own_written own done) f qs)) (sym (get_written own h a))
    ∙ sym (is_in-append (Cell q) (questions_of f (session_tree (own_written own done) (OfState (Byte a)))) _))
looks_of_cell f own done h (OfState (Input k) ∷ qs) looks q = looks_of_cell f own done h qs looks q
looks_of_cell f own done h (OfFiles x ∷ qs) looks q =
    looks_of_cell f own done h qs looks q
    ∙ ap (λ b. is_among q looks || b) (sym (is_in-append (Cell q) (questions_of f (host_tree_of (passing.host_tree done x))) _
    ∙ ap (λ b. b || is_in (Cell q) (dependence.session_questions session_tree (own_written own done) f qs)) (no_cell f (passing.host_tree done x) q)))

-- A question for a script offset is passed on.
looks_of_script : (f : Answers) (o : Own) (qs : List SystemQuestion) (k : ℕ) → is_in (Script k) (dependence.session_questions session_tree o f qs) ≡ is_among k (script_offsets (state_questions qs))
looks_of_script f o [] k = refl
looks_of_script f o (OfState (Byte a) ∷ qs) k =
    is_in-append (Script k) (questions_of f (session_tree o (OfState (Byte a)))) _ ∙ ap (λ b. b || is_in (Script k) (dependence.session_questions session_tree o f qs)) (none (finmap.get o.cells a)) ∙ looks_of_script f o qs k where
      none : (o : Option ℕ) → is_in (Script k) (questions_of f (own_or_ask o a)) ≡ false
      none None = refl
      none (Some v) = refl
looks_of_script f o (OfState (Input j) ∷ qs) k = ap (λ b. k == j || b) (looks_of_script f o qs k)
looks_of_script f o (OfFiles x ∷ qs) k =
    is_in-append (Script k) (questions_of f (host_tree_of (passing.host_tree o.files x))) _
    ∙ ap (λ b. b || is_in (Script k) (dependence.session_questions session_tree o f qs)) (no_place f (passing.host_tree o.files x) k) ∙ looks_of_script f o qs k

-- Questions to memory and the script pass nothing on to the host files.
near_asks_none : (f : Answers) (o : Own) (a : Ask) (q : _) → is_in (OfHost a) (questions_of f (session_tree o (OfState q))) ≡ false
near_asks_none f o a (Byte b) = none (finmap.get o.cells b) where
  none : (v : Option ℕ) → is_in (OfHost a) (questions_of f (own_or_ask v b)) ≡ false
  none None = refl
  none (Some v) = refl
near_asks_none f o a (Input k) = refl

-- A question about files marks what is passed on.
looks_of_host : (f : Answers) (o : Own) (a : Ask) (qs : List SystemQuestion) (l : file_questions_asked.FileLooks)
    → is_looked (look_for_all o.files (file_questions qs) l) a ≡ (is_looked l a || is_in (OfHost a) (dependence.session_questions session_tree o f qs))
looks_of_host f o a [] l = sym (or-false (is_looked l a))
looks_of_host f o a (OfState q ∷ qs) l =
    looks_of_host f o a qs l
    ∙ ap (λ b. is_looked l a || b) (sym (is_in-append (OfHost a) (questions_of f (session_tree o (OfState q))) _ ∙ ap (λ b. b || is_in (OfHost a) (dependence.session_questions session_tree o f qs)) (near_asks_none f o a q)))
looks_of_host f o a (OfFiles x ∷ qs) l =
    looks_of_host f o a qs (look_for o.files x l)
    ∙ ap (λ b. b || is_in (OfHost a) (dependence.session_questions session_tree o f qs)) (mark_one f a o.files x l)
    ∙ or_assoc (is_looked l a) _ _
    ∙ ap (λ b. is_looked l a || b) (sym (is_in-append (OfHost a) (questions_of f (host_tree_of (passing.host_tree o.files x))) _))

-- An address among some looks is among more looks.
among_further : (q : ℕ) (xs ys : List ℕ) → memory.Extends xs ys → is_among q xs ≡ true → is_among q ys ≡ true
among_further q xs ys e h = rw (sym (take-append-drop (length xs) ys), e, is_among-append q xs (drop (length xs) ys), h) refl

-- ---- a step, by the tree at PC

module _ (s : Session) (r : Regs) (d : DeskAndFiles) (own : ℕ → Option ℕ) (h : InCells own) (sound : AreSoundOwnFiles s.files d.files) where
  -- The outcome of the tree at PC.
  outcome_of : (t : SystemTree StepEnd) → next (record { regs = r; desk = d.desk }) ≡ t → outcome (session_answers s) (state_with r d own) ≡ outcome_with (state_with r d own) (result_of (memory_answers s own d.files) t)
  unfolding dependence.outcome
  outcome_of t e = ap (λ x. outcome_with (state_with r d own) (result_of (laid (own_written own d.files) (session_answers s)) x)) e ∙ ap (outcome_with (state_with r d own)) (laid_result s own d.files h sound t)

  looks_are : (t : SystemTree StepEnd) → next (record { regs = r; desk = d.desk }) ≡ t
      → looks_at (session_answers s) (state_with r d own) ≡ dependence.session_questions session_tree (own_written own d.files) (session_answers s) (questions_of (memory_answers s own d.files) t)
  unfolding dependence.looks_at
  looks_are t e =
      ap (λ x. dependence.session_questions session_tree (own_written own d.files) (session_answers s) (questions_of (laid (own_written own d.files) (session_answers s)) x)) e
      ∙ ap (dependence.session_questions session_tree (own_written own d.files) (session_answers s)) (laid_asked s own d.files h sound t)

  -- The looks after it.
  looked_of : (t : SystemTree StepEnd) → next (record { regs = r; desk = d.desk }) ≡ t → (old new : AllLooks)
      → new.cells ≡ look_all own (addresses (state_questions (questions_of (memory_answers s own d.files) t))) old.cells
      → ((k : ℕ) → is_within new.offsets k ≡ (is_within old.offsets k || is_among k (script_offsets (state_questions (questions_of (memory_answers s own d.files) t)))))
      → new.files ≡ look_for_all d.files (file_questions (questions_of (memory_answers s own d.files) t)) old.files
      → (q : Question) → is_looked_at new q ≡ (is_looked_at old q || is_in q (looks_at (session_answers s) (state_with r d own)))
  looked_of t e old new cells offsets asks (Cell q) =
      ap (is_among q) cells
      ∙ looks_of_cell (session_answers s) own d.files h (questions_of (memory_answers s own d.files) t) old.cells q
      ∙ ap (λ qs. is_among q old.cells || is_in (Cell q) qs) (sym (looks_are t e))
  looked_of t e old new cells offsets asks (Script k) =
      offsets k ∙ ap (λ b. is_within old.offsets k || b) (sym (ap (is_in (Script k)) (looks_are t e) ∙ looks_of_script (session_answers s) (own_written own d.files) (questions_of (memory_answers s own d.files) t) k))
  looked_of t e old new cells offsets asks (OfHost a) =
      ap (λ l. is_looked l a) asks
      ∙ looks_of_host (session_answers s) (own_written own d.files) a (questions_of (memory_answers s own d.files) t) old.files
      ∙ ap (λ qs. is_looked old.files a || is_in (OfHost a) qs) (sym (looks_are t e))

  -- Some of the looks after it.
  bounded_of : (t : SystemTree StepEnd) → next (record { regs = r; desk = d.desk }) ≡ t → (old new : AllLooks)
      → memory.Extends new.cells (look_all own (addresses (state_questions (questions_of (memory_answers s own d.files) t))) old.cells) → ((k : ℕ) → is_within new.offsets k ≡ is_within old.offsets k)
      → file_looks.KeepsAsks new.files (look_for_all d.files (file_questions (questions_of (memory_answers s own d.files) t)) old.files)
      → AddsNoOtherLooks old (looks_at (session_answers s) (state_with r d own)) new
  bounded_of t e old new cells offsets asks (Cell q) among =
      sym (looks_of_cell (session_answers s) own d.files h (questions_of (memory_answers s own d.files) t) old.cells q ∙ ap (λ qs. is_among q old.cells || is_in (Cell q) qs) (sym (looks_are t e)))
      ∙ among_further q new.cells _ cells among
  bounded_of t e old new cells offsets asks (Script k) within = ap (λ b. b || is_in (Script k) (looks_at (session_answers s) (state_with r d own))) (sym (offsets k) ∙ within)
  bounded_of t e old new cells offsets asks (OfHost a) marked =
      sym (looks_of_host (session_answers s) (own_written own d.files) a (questions_of (memory_answers s own d.files) t) old.files
      ∙ ap (λ qs. is_looked old.files a || is_in (OfHost a) qs) (sym (looks_are t e)))
      ∙ asks.kept a marked

-- The effect of the end of a tree.
abbrev Leaves : StepEnd → Regs → DeskAndFiles → (ℕ → Option ℕ) → Regs → DeskAndFiles → (ℕ → Option ℕ) → Type 0
Leaves (Went t spot bytes wrote change) r d own r' d' own' = (r' ≡ t) × (d'.desk ≡ desk_with d.desk spot bytes) × (own' ≡ write_all own wrote.cells) × (d'.files ≡ own_after_change change d.files)
Leaves (Stopped x) r d own r' d' own' = (r' ≡ r) × (d'.desk ≡ d.desk) × (own' ≡ own) × (d'.files ≡ d.files)

abbrev stop_of : StepEnd → Option Cause
stop_of (Went t spot bytes wrote change) = None
stop_of (Stopped x) = Some x

module _ (r r' : Regs) (d d' : DeskAndFiles) (own own' : ℕ → Option ℕ) (h : InCells own) (h' : InCells own') where
  made_told : (e : StepEnd) → Leaves e r d own r' d' own' → outcome_with (state_with r d own) e ≡ outcome_from (stop_of e) (state_with r' d' own')
  made_told (Went t spot bytes wrote change) l = sym (λ i. Step (record { core = record { regs = l.0 i; desk = l.1 i }; own = record { cells = cells_written own own' wrote.cells h h' l.2 i; files = l.3 i } }))
  made_told (Stopped x) l = refl

  made_stays : (e : StepEnd) → Leaves e r d own r' d' own' → IfSome (stop_of e) (λ cause. state_with r' d' own' ≡ state_with r d own)
  made_stays (Went t spot bytes wrote change) l = tt
  made_stays (Stopped x) l = λ i. record { core = record { regs = l.0 i; desk = l.1 i }; own = record { cells = written_cells (l.2 i); files = l.3 i } }

pub within_cells : (c : PagedCells) → InCells (own_in c)
within_cells c = in_cells c.slots.items (omega arith)

pub within : (o : Overlay) → InCells (own_of o)
within o = within_cells o.cells

-- The effect of a tree that is executed over pages.
pub record Carried (s : Session) (t : SystemTree StepEnd) (r : Regs) (d : DeskAndFiles) (o : Overlay) (r' : Regs) (d' : DeskAndFiles) (o' : Overlay) : Type 0 where
  pub at : next (record { regs = r; desk = d.desk }) ≡ t
  pub leaves : Leaves (result_of (memory_answers s (own_of o) d.files) t) r d (own_of o) r' d' (own_of o')
  pub cells : looks_of o' ≡ look_all (own_of o) (addresses (state_questions (questions_of (memory_answers s (own_of o) d.files) t))) (looks_of o)
  pub offsets : (k : ℕ) → is_within d'.offsets k ≡ (is_within d.offsets k || is_among k (script_offsets (state_questions (questions_of (memory_answers s (own_of o) d.files) t))))
  pub asks : d'.asks ≡ look_for_all d.files (file_questions (questions_of (memory_answers s (own_of o) d.files) t)) d.asks
  pub extends : file_looks.KeepsAsks d.asks d'.asks

carried : (s : Session) (r r' : Regs) (d d' : DeskAndFiles) (o o' : Overlay) (t : SystemTree StepEnd) → AreSoundOwnFiles s.files d.files → Carried s t r d o r' d' o'
    → Takes s r d o (Ok (stop_of (result_of (memory_answers s (own_of o) d.files) t))) r' d' o'
carried s r r' d d' o o' t sound w = record {
  outcome = outcome_of s r d (own_of o) (within o) sound t w.at ∙ made_told r r' d d' (own_of o) (own_of o') (within o) (within o') (result_of (memory_answers s (own_of o) d.files) t) w.leaves;
  stays = made_stays r r' d d' (own_of o) (own_of o') (within o) (within o') (result_of (memory_answers s (own_of o) d.files) t) w.leaves;
  failed = tt;
  looked = looked_of s r d (own_of o) (within o) sound t w.at (looks_in o d) (looks_in o' d') w.cells w.offsets w.asks;
  extends = record {
    cells = extends_by (own_of o) (addresses (state_questions (questions_of (memory_answers s (own_of o) d.files) t))) (looks_of o) (looks_of o') w.cells;
    offsets = λ k h. w.offsets k ∙ ap (λ b. b || is_among k (script_offsets (state_questions (questions_of (memory_answers s (own_of o) d.files) t)))) h;
    files = w.extends;
  };
  bounded = tt;
}

-- A tree that failed.
broken_off : (s : Session) (r r' : Regs) (d d' : DeskAndFiles) (o o' : Overlay) (t : SystemTree StepEnd) (e : AllocError) → AreSoundOwnFiles s.files d.files → next (record { regs = r; desk = d.desk }) ≡ t
    → r' ≡ r → d'.desk ≡ d.desk → own_of o' ≡ own_of o → d'.files ≡ d.files → memory.Extends (looks_of o) (looks_of o')
    → memory.Extends (looks_of o') (look_all (own_of o) (addresses (state_questions (questions_of (memory_answers s (own_of o) d.files) t))) (looks_of o))
    → ((k : ℕ) → is_within d'.offsets k ≡ is_within d.offsets k) → file_looks.KeepsAsks d.asks d'.asks
    → file_looks.KeepsAsks d'.asks (look_for_all d.files (file_questions (questions_of (memory_answers s (own_of o) d.files) t)) d.asks)
    → Takes s r d o (Err e) r' d' o'
broken_off s r r' d d' o o' t e sound at regs desk own done extends bound offsets asks bound_asks = record {
  outcome = tt;
  stays = tt;
  failed = λ i. record { core = record { regs = regs i; desk = desk i }; own = record { cells = written_cells (own i); files = done i } };
  looked = tt;
  extends = record { cells = extends; offsets = λ k h. offsets k ∙ h; files = asks };
  bounded = bounded_of s r d (own_of o) (within o) sound t at (looks_in o d) (looks_in o' d') bound offsets bound_asks;
}

-- ---- an instruction

at_instruction : (r : Regs) (d : Desk) → r.pc < 0xfe00 → next (record { regs = r; desk = d }) ≡ bind_reading (instruction r) (λ e. Return (step_end_of d.spot e))
unfolding next
at_instruction r d low = rw (ne_eqb r.pc 0xff03 (omega arith), ne_eqb r.pc 0xfe06 (omega arith), lt-leb 0xfe00 r.pc low) refl

sent_nothing : (d : Desk) → d ≡ desk_with d d.spot []
sent_nothing d = ap (λ text. record { spot = d.spot; text = text }) (sym (append-nil d.text))

end_leaves : (r r' : Regs) (d : DeskAndFiles) (own own' : ℕ → Option ℕ) (e : end.End) → r' ≡ end_left.regs_after e r → own' ≡ end_left.own_after e own → Leaves (step_end_of d.desk.spot e) r d own r' d own'
end_leaves r r' d own own' (end.Went t ws) regs wrote = (regs, sent_nothing d.desk, wrote, refl)
end_leaves r r' d own own' end.Halt regs wrote = (regs, refl, wrote, refl)
end_leaves r r' d own own' (end.Undefined byte) regs wrote = (regs, refl, wrote, refl)

end_stops : (d : Desk) (e : end.End) → stop_of (step_end_of d.spot e) ≡ stop_of_instruction (end_left.did_of e)
end_stops d (end.Went t ws) = refl
end_stops d end.Halt = refl
end_stops d (end.Undefined byte) = refl

module _ (s : Session) (r r' : Regs) (d : DeskAndFiles) (o o' : Overlay) (sound : AreSoundOwnFiles s.files d.files) (low : r.pc < 0xfe00) where
  abbrev answers_here : SystemAnswers
  answers_here = memory_answers s (own_of o) d.files

  abbrev ends_with : end.End → SystemTree StepEnd
  ends_with e = Return (step_end_of d.desk.spot e)

  pub instructed : {ready : ℕ → Bool} (did : Did) → end_left.Performs (instruction r) r (memory_over_image s o) ready (Ok did) r' (memory_over_image s o') → Takes s r d o (Ok (stop_of_instruction did)) r' d o'
  instructed did p =
      let t = bind_reading (instruction r) ends_with in
      let ends : result_of answers_here t ≡ step_end_of d.desk.spot (reading.end_of (instruction r) (over (own_of o) (image_of s))) = ap (λ (p : SystemPath StepEnd). p.end) (path-reading answers_here ends_with (instruction r)) in
      let asks : addresses (state_questions (questions_of answers_here t)) ≡ reading.asked (instruction r) (over (own_of o) (image_of s)) = ap (λ (p : SystemPath StepEnd). p.cells) (path-reading answers_here ends_with (instruction r)) ∙ append-nil _ in
      let offsets : script_offsets (state_questions (questions_of answers_here t)) ≡ [] = ap (λ (p : SystemPath StepEnd). p.offsets) (path-reading answers_here ends_with (instruction r)) in
      let files : file_questions (questions_of answers_here t) ≡ [] = ap (λ (p : SystemPath StepEnd). p.asks) (path-reading answers_here ends_with (instruction r)) in
      let all = carried s r r' d d o o' t sound (record {
        at = at_instruction r d.desk low;
        leaves = subst (λ (x : StepEnd). Leaves x r d (own_of o) r' d (own_of o')) (sym ends) (end_leaves r r' d (own_of o) (own_of o') _ p.regs p.own);
        cells = p.looks ∙ ap (λ at. look_all (own_of o) at (looks_of o)) (sym asks);
        offsets = λ j. sym (or-false (is_within d.offsets j)) ∙ ap (λ ks. is_within d.offsets j || is_among j ks) (sym offsets);
        asks = ap (λ qs. look_for_all d.files qs d.asks) (sym files);
        extends = extends_same d.asks d.asks refl;
      }) in
      subst (λ (x : Option Cause). Takes s r d o (Ok x) r' d o') (ap stop_of ends ∙ end_stops d.desk _ ∙ ap stop_of_instruction (sym p.did)) all

  pub instruction_fails : {ready : ℕ → Bool} (e : AllocError) → end_left.Performs (instruction r) r (memory_over_image s o) ready (Err e) r' (memory_over_image s o') → Takes s r d o (Err e) r' d o'
  instruction_fails e p =
      let t = bind_reading (instruction r) ends_with in
      let asks : addresses (state_questions (questions_of answers_here t)) ≡ reading.asked (instruction r) (over (own_of o) (image_of s)) = ap (λ (p : SystemPath StepEnd). p.cells) (path-reading answers_here ends_with (instruction r)) ∙ append-nil _ in
      let files : file_questions (questions_of answers_here t) ≡ [] = ap (λ (p : SystemPath StepEnd). p.asks) (path-reading answers_here ends_with (instruction r)) in
      broken_off s r r' d d o o' t e sound (at_instruction r d.desk low) p.err_regs refl p.err_own refl
      (extends_by (own_of o) (reading.asked (instruction r) (over (own_of o) (image_of s))) (looks_of o) (looks_of o') p.looks)
      (subst (λ (at : List ℕ). memory.Extends (looks_of o') (look_all (own_of o) at (looks_of o))) (sym asks) (bound_here (looks_of o') _ p.looks)) (λ j. refl) (extends_same d.asks d.asks refl)
      (within_all d.files (file_questions (questions_of answers_here t)) d.asks d.asks (extends_same d.asks d.asks refl))

-- ---- a call

at_call : (r : Regs) (d : Desk) → r.pc ≡ 0xfe06 → next (record { regs = r; desk = d }) ≡ map_result step_end_of_call (call script_limit r d.spot)
unfolding next
at_call r d e = rw e refl

call_leaves : (host : Host) (done : files.OwnFiles) (r r' : Regs) (d d' : DeskAndFiles) (own own' : ℕ → Option ℕ) (e : SystemEnd) → r' ≡ calls_left.regs_after e.0 r → d'.desk ≡ calls_left.desk_after e.0 d.desk → own' ≡ calls_left.own_after e.0 own
    → d'.files ≡ own_after_change e.1 d.files → IsStill host done e.0 e.1 → Leaves (step_end_of_call e) r d own r' d' own'
call_leaves host done r r' d d' own own' (calls.Completed t spot bytes wrote, change) regs desk cells files stays = (regs, desk, cells, files)
call_leaves host done r r' d d' own own' (calls.Stopped cause, change) regs desk cells files stays = (regs, desk, cells, files ∙ ap (λ x. own_after_change x d.files) stays)

call_stops : (e : SystemEnd) → stop_of (step_end_of_call e) ≡ stop_of_call (calls_left.served_of e.0)
call_stops (calls.Completed t spot bytes wrote, change) = refl
call_stops (calls.Stopped cause, change) = refl

module _ (s : Session) (r r' : Regs) (d d' : DeskLooks) (c c' : Changes) (o o' : Overlay) (g : GName) (sound : AreSoundOwnFiles s.files c.journal.entries) (at : r.pc ≡ 0xfe06) where
  abbrev answers_called : SystemAnswers
  answers_called = memory_answers s (own_of o) c.journal.entries

  abbrev tree : SystemTree SystemEnd
  tree = call script_limit r d.desk.spot

  pub called : (served : Served)
      → MakesSystemCall (call script_limit) s.script (scene r (memory_over_image s o) d) (drives_in s c g) (Ok served) (scene r' (memory_over_image s o') d') (drives_in s c' g) → Takes s r (devices_of d c) o (Ok (stop_of_call served)) r' (devices_of d' c') o'
  called served p =
      let ends : result_of answers_called (map_result step_end_of_call tree) ≡ step_end_of_call (result_of answers_called tree) = result_of-returning answers_called step_end_of_call tree in
      let asks : questions_of answers_called (map_result step_end_of_call tree) ≡ questions_of answers_called tree = asked-returning answers_called step_end_of_call tree in
      let all = carried s r r' (devices_of d c) (devices_of d' c') o o' (map_result step_end_of_call tree) sound (record {
        at = at_call r d.desk at;
        leaves = subst (λ (x : StepEnd). Leaves x r (devices_of d c) (own_of o) r' (devices_of d' c') (own_of o')) (sym ends)
            (call_leaves s.files c.journal.entries r r' (devices_of d c) (devices_of d' c') (own_of o) (own_of o') _ p.call.executed.regs p.call.executed.desk p.call.executed.own p.executed.own (call_fits s.files c.journal.entries answers_called (λ q. refl) script_limit r d.desk.spot).1);
        cells = p.call.executed.looks ∙ ap (λ qs. look_all (own_of o) (addresses (state_questions qs)) (looks_of o)) (sym asks);
        offsets = λ k. p.call.executed.looked k ∙ ap (λ qs. is_within d.looks k || is_among k (script_offsets (state_questions qs))) (sym asks);
        asks = p.executed.looks ∙ ap (λ qs. look_for_all c.journal.entries (file_questions qs) c.looks) (sym asks);
        extends = p.extends;
      }) in
      subst (λ (x : Option Cause). Takes s r (devices_of d c) o (Ok x) r' (devices_of d' c') o') (ap stop_of ends ∙ call_stops _ ∙ ap stop_of_call (sym p.call.served)) all

  pub call_fails : (e : AllocError)
      → MakesSystemCall (call script_limit) s.script (scene r (memory_over_image s o) d) (drives_in s c g) (Err e) (scene r' (memory_over_image s o') d') (drives_in s c' g) → Takes s r (devices_of d c) o (Err e) r' (devices_of d' c') o'
  call_fails e p =
      let asks : questions_of answers_called (map_result step_end_of_call tree) ≡ questions_of answers_called tree = asked-returning answers_called step_end_of_call tree in
      broken_off s r r' (devices_of d c) (devices_of d' c') o o' (map_result step_end_of_call tree) e sound (at_call r d.desk at)
      p.call.failed.regs p.call.failed.desk p.call.failed.own p.failed.own p.call.failed.looks
      (subst (λ (qs : List SystemQuestion). memory.Extends (looks_of o') (look_all (own_of o) (addresses (state_questions qs)) (looks_of o))) (sym asks) p.call.failed.bound) p.call.failed.looked p.extends
      (subst (λ (qs : List SystemQuestion). file_looks.KeepsAsks c'.looks (look_for_all c.journal.entries (file_questions qs) c.looks)) (sym asks) p.failed.bound)

-- ---- a stop that asks nothing

pub stopped : (s : Session) (r : Regs) (d : DeskAndFiles) (o : Overlay) (cause : Cause) → AreSoundOwnFiles s.files d.files → next (record { regs = r; desk = d.desk }) ≡ Return (Stopped cause) → Takes s r d o (Ok (Some cause)) r d o
stopped s r d o cause sound e = carried s r r d d o o (Return (Stopped cause)) sound (record {
  at = e;
  leaves = (refl, refl, refl, refl);
  cells = refl;
  offsets = λ k. sym (or-false (is_within d.offsets k));
  asks = refl;
  extends = extends_same d.asks d.asks refl;
})

pub next_warm : (r : Regs) (d : Desk) → r.pc ≡ 0xff03 → next (record { regs = r; desk = d }) ≡ Return (Stopped WarmBoot)
unfolding next
next_warm r d e = rw e refl

pub next_system : (r : Regs) (d : Desk) → r.pc ≢ 0xff03 → r.pc ≢ 0xfe06 → 0xfe00 ≤ r.pc → next (record { regs = r; desk = d }) ≡ Return (Stopped (SystemArea r.pc))
unfolding next
next_system r d w b h = rw (ne_eqb r.pc 0xff03 w, ne_eqb r.pc 0xfe06 b, le-leb 0xfe00 r.pc h) refl

-- An error, whatever it carries.
pub fails_as : {s : Session} {old new : StateView} (e : AllocError) (result : Result (Option Cause) AllocError) → IsErr result → TakesStep s old (Err e) new → TakesStep s old result new
fails_as e (Ok x) h w = absurd (cc)
fails_as e (Err e') h w = record { outcome = tt; stays = tt; failed = w.failed; looked = tt; extends = w.extends; bounded = w.bounded }

-- ---- a call over a view and a table, with the longest script

-- Two memories and two tables with the same contents.
pub record IsSeenAs (m v : Memory) : Type 0 where
  pub own : m.own ≡ v.own
  pub beneath : m.beneath ≡ v.beneath
  pub looks : m.looks ≡ v.looks

pub record AreDrivesAs (m v : TableView) : Type 0 where
  pub host : m.host ≡ v.host
  pub own : m.own ≡ v.own
  pub looks : m.looks ≡ v.looks

-- The references that lend memory and files do not matter.
relent : {p : SystemPath SystemEnd} (d d' : DeskLooks) (m m' : Memory) (f f' : TableView) {r r' : Regs} {v v' : Memory} {w w' : TableView} (result : Result Served AllocError)
    → PerformsSystemCall p (scene r (record v { lender = m.lender }) d) (record w { lender = f.lender }) result (scene r' (record v' { lender = m'.lender }) d') (record w' { lender = f'.lender })
    → v'.lender ≡ v.lender → w'.lender ≡ w.lender → PerformsSystemCall p (scene r v d) w result (scene r' v' d') w'
relent d d' m m' f f' (Ok s) p lender lends =
    let c = p.call.executed in
    record {
      call = record { served = p.call.served; executed = record { regs = c.regs; desk = c.desk; own = c.own; looks = c.looks; looked = c.looked }; failed = tt; beneath = p.call.beneath; lender = lender };
      executed = record { own = p.executed.own; looks = p.executed.looks };
      failed = tt;
      extends = p.extends;
      host = p.host;
      lends = lends;
    }
relent d d' m m' f f' (Err e) p lender lends =
    let c = p.call.failed in
    record {
      call = record { served = tt; executed = tt; failed = record { regs = c.regs; desk = c.desk; own = c.own; looked = c.looked; looks = c.looks; bound = c.bound }; beneath = p.call.beneath; lender = lender };
      executed = tt;
      failed = record { own = p.failed.own; bound = p.failed.bound };
      extends = p.extends;
      host = p.host;
      lends = lends;
    }

pub at_limit : (d d' : DeskLooks) {script other : List ℕ} {r r' : Regs} {m m' v v' : Memory} {f f' w w' : TableView} {result : Result Served AllocError}
    → script ≡ other → length script ≤ SCRIPT_LIMIT → ((n : ℕ) → length script ≤ n → MakesSystemCall (call n) script (scene r m d) f result (scene r' m' d') f')
    → IsSeenAs m v → IsSeenAs m' v' → v'.lender ≡ v.lender → AreDrivesAs f w → AreDrivesAs f' w' → w'.lender ≡ w.lender
    → MakesSystemCall (call script_limit) other (scene r v d) w result (scene r' v' d') w'
at_limit d d' {script = script} {other = other} {r = r} {r' = r'} {m = m} {m' = m'} {v = v} {v' = v'} {f = f} {f' = f'} {w = w} {w' = w'} {result = result} same short h seen seen' lender drives drives' lends =
    let before : m ≡ record v { lender = m.lender } = λ i. record { own = seen.own i; beneath = seen.beneath i; looks = seen.looks i; lender = m.lender } in
    let after : m' ≡ record v' { lender = m'.lender } = λ i. record { own = seen'.own i; beneath = seen'.beneath i; looks = seen'.looks i; lender = m'.lender } in
    let files : f ≡ record w { lender = f.lender } = λ i. record { host = drives.host i; own = drives.own i; looks = drives.looks i; lender = f.lender } in
    let files' : f' ≡ record w' { lender = f'.lender } = λ i. record { host = drives'.host i; own = drives'.own i; looks = drives'.looks i; lender = f'.lender } in
    relent d d' m m' f f' result
    (subst (λ (x : TableView). MakesSystemCall (call script_limit) other (scene r (record v { lender = m.lender }) d) (record w { lender = f.lender }) result (scene r' (record v' { lender = m'.lender }) d') x) files'
    (subst (λ (x : TableView). MakesSystemCall (call script_limit) other (scene r (record v { lender = m.lender }) d) x result (scene r' (record v' { lender = m'.lender }) d') f') files
    (subst (λ (x : Memory). MakesSystemCall (call script_limit) other (scene r (record v { lender = m.lender }) d) f result (scene r' x d') f') after
    (subst (λ (x : Memory). MakesSystemCall (call script_limit) other (scene r x d) f result (scene r' m' d') f') before
    (subst (λ (l : List ℕ). MakesSystemCall (call script_limit) l (scene r m d) f result (scene r' m' d') f') same (h script_limit (rw script_limit-is short)))))))
    lender lends
